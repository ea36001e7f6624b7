use Rattle.book_wire_json.proofs.Common.{ap, sym, ◌∙◌}
use Rattle.book_wire_json.specs.PropertyValues.{inherited_member}
use Rattle.book_wire_json.specs.Writing.{told_members}
use Rattle.book_wire_json.proofs.property_values.write_inherited.Goals as goal

pub returns-in_ok-path_member : goal.returns-in_ok-path_member
returns-in_ok-path_member c =
    c.in_ok-path_member.ensures ∙ ap (λ i. told_members c.args.out.now (inherited_member i)) (sym c.in-Some.is)
