use Rattle.std.proofs.Common.{◌∙◌, List, true, ap, map, sym, subst}
use Rattle.std.proofs.lemmas.List.{take_all}
use Rattle.book_policy_values.specs.declared.parts.PolicyEntry.{PolicyEntry}
use Rattle.book_policy_idle.specs.Marks.{AreAllMarked}
use Rattle.book_policy_idle.proofs.Clearing.{all_marked}
use Rattle.book_policy_idle.proofs.marks.all_marked.Goals as goal

pub returns : goal.returns
returns c =
    let es = c.args.entries.now in
    subst (AreAllMarked es)
    (sym (c.loop-entry.invariant ∙ ap (λ (l : List PolicyEntry). map (λ (e : PolicyEntry). true) l) (take_all c.loop-entry._entry-index es c.loop-entry-test.false)))
    (all_marked es)
