use Rattle.std.specs.List.{each_same}
use Rattle.book_office_values.proofs.NameMapLaws.{copied_map}
use Rattle.book_policy_values.proofs.policies.PolicyClone.clone.Goals as goal

pub invariant_of-result : goal.invariant_of-result
invariant_of-result c =
    let tables = c.in_ok-clone.ensures.cases in
    let protected = copied_map _ (λ x y. each_same x y) c.self.inside.protected c.in_ok-clone-2.field-0 c.in_ok-clone-2.ensures.cases in
    let own = copied_map _ (λ x y. each_same x y) c.self.inside.own c.in_ok-clone-3.field-0 c.in_ok-clone-3.ensures.cases in
    rw tables (rw protected (rw own c.self.invariant))
