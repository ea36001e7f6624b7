use Rattle.book_office_values.proofs.Common.{List, sym, ap, ◌∙◌, filter}
use Rattle.std.proofs.Common.{is_some}
use Rattle.std.specs.FinMap as map
use Rattle.book_office_values.specs.Changes.{Change, is_full}
use Rattle.book_office_values.proofs.FirstOf.{told_all, told_full}
use Rattle.book_office_values.proofs.collections.number_maps.NumberMap.after_among.Goals.{in-None, in-Some+then-is_full}
use Rattle.book_office_values.proofs.collections.number_maps.NumberMap.after_among.Goals as goal

pub returns : goal.returns
returns g c =
    let has : List Change → List Change = λ es. filter (λ e. is_some (map.get c.args.names.now e.1)) es in
    let told = c.loop-above.after in
    let most = c.args.at_most in
    let parts = c.loop-above.invariant.parts ∙ ap has (c.into_iter-above-iterator.ensures.into_iter_gives ∙ c.range_after-above-items.ensures.entries) in
    elim c.match-next.branch [
      | in-None w ↦ told_all most told _ _ c.loop-above.invariant.within (ap has w.in-None.ensures.steps.0) parts
      | in-Some+then-is_full w ↦ told_full most told _ _ c.loop-above.invariant.within (ap (is_full most) (sym w.len.ensures) ∙ sym w.is_full.ensures ∙ w.if-is_full.true) parts
    ]
