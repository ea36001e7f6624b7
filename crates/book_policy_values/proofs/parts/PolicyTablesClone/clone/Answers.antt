use Rattle.std.specs.List.{each_same}
use Rattle.book_office_values.proofs.NameMapLaws.{copied_map}
use Rattle.book_policy_values.proofs.parts.PolicyTablesClone.clone.Goals as goal

pub returns : goal.returns
returns c =
    let persons = copied_map _ (λ x y e. e) c.args.self.now.persons c.in_ok-clone.field-0 c.in_ok-clone.ensures.cases in
    let groups = copied_map _ (λ x y e. e) c.args.self.now.groups c.in_ok-clone-2.field-0 c.in_ok-clone-2.ensures.cases in
    let books = copied_map _ (λ x y e. e) c.args.self.now.books c.in_ok-clone-3.field-0 c.in_ok-clone-3.ensures.cases in
    let members = c.in_ok-clone-4.ensures.cases in
    let entries = each_same _ _ c.in_ok-clone-5.ensures.cases in
    record { cases = λ i. record { persons = persons i; groups = groups i; books = books i; members = members i; entries = entries i } }
