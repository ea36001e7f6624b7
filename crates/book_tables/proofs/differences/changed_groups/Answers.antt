use Rattle.book_tables.proofs.Common.{ℕ, List, [], map, subst, entries, IfOk-weaker, joined}
use Rattle.book_tables.specs.Adopting.{AddsGroups}
use Rattle.book_tables.proofs.differences.changed_groups.Goals as goal

pub returns : goal.returns
returns c =
    let names : List (List ℕ) = map (λ e. e.0) (entries c.args.new.now.groups) in
    let before = c.in_ok-before.before.items in
    let after = c.in_ok-after.after.items in
    IfOk-weaker c.compare_members.result _ _ (λ groups adds. (
      before,
      c.in_ok-before.ensures.pairs,
      after,
      c.in_ok-after.ensures.pairs,
      subst (λ l. AddsGroups l after names [] (map joined groups.items)) c.as_slice.ensures.value
          (subst (λ l. AddsGroups c.as_slice.result.now l names [] (map joined groups.items)) c.as_slice-2.ensures.value adds),
    )) c.compare_members.ensures
