use Rattle.std.proofs.Common.{◌++◌, ◌∷◌, [], List, ℕ, ap, ◌∙◌, subst}
use Rattle.std.specs.FinMap.{keys}
use Rattle.book_lists.specs.Memberships.{IsReachOf}
use Rattle.book_policy_values.specs.declared.parts.PolicyTables.{PolicyTables}
use Rattle.book_policy_idle.specs.Marks.{AddsAskers}
use Rattle.book_policy_idle.specs.declared.askers.Asker.{Asker}
use Rattle.book_policy_idle.proofs.Telling.{are_askers}
use Rattle.book_policy_idle.proofs.askers.askers_of.Goals as goal

pub returns : goal.returns
returns c =
    let a = c.in_ok-asker_of.field-0 in
    are_askers c.args.policy.now c.in_ok-reach.reach c.push.new.self c.add_persons.new.askers a c.in_ok-names.names
    (subst (λ (t : PolicyTables). IsReachOf t.members c.in_ok-reach.reach) c.tables.ensures c.in_ok-reach.ensures)
    (c.in_ok-push.ensures.ok ∙ ap (λ (l : List Asker). l ++ a ∷ []) c.new-askers.ensures)
    c.in_ok-asker_of.ensures.caller c.in_ok-asker_of.ensures.right
    (c.in_ok-names.ensures ∙ ap (λ (t : PolicyTables). keys t.persons) c.tables-2.ensures)
    (subst (λ (ns : List (List ℕ)). AddsAskers c.in_ok-reach.reach c.push.new.self ns c.add_persons.new.askers) c.as_slice.ensures c.in_ok-add_persons.ensures)
