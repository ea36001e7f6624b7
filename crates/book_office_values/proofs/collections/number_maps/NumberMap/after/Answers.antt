use Rattle.book_office_values.proofs.Common.{sym, ap, ◌∙◌}
use Rattle.book_office_values.specs.Changes.{is_full}
use Rattle.book_office_values.proofs.FirstOf.{told_all, told_full}
use Rattle.book_office_values.proofs.collections.number_maps.NumberMap.after.Goals.{in-None, in-Some+then-is_full}
use Rattle.book_office_values.proofs.collections.number_maps.NumberMap.after.Goals as goal

pub returns : goal.returns
returns c =
    let told = c.loop-above.after in
    let most = c.args.at_most in
    let parts = c.loop-above.invariant.parts ∙ c.into_iter-above-iterator.ensures.into_iter_gives ∙ c.range_after-above-items.ensures.entries in
    elim c.match-next.branch [
      | in-None w ↦ told_all most told _ _ c.loop-above.invariant.within w.in-None.ensures.steps.0 parts
      | in-Some+then-is_full w ↦ told_full most told _ _ c.loop-above.invariant.within (ap (is_full most) (sym w.len.ensures) ∙ sym w.is_full.ensures ∙ w.if-is_full.true) parts
    ]
