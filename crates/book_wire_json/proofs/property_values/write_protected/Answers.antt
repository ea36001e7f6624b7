use Rattle.book_wire_json.proofs.Common.{[], ◌∷◌, ◌++◌, ap, sym, ◌∙◌}
use Rattle.json.specs.Token.{boolean}
use Rattle.std.proofs.Common.{true}
use Rattle.book_wire_json.specs.PropertyValues.{protected_member}
use Rattle.book_wire_json.specs.Writing.{told_members}
use Rattle.book_wire_json.proofs.property_values.write_protected.Goals as goal

pub returns-in_ok-boolean : goal.returns-in_ok-boolean
returns-in_ok-boolean c =
    c.in_ok-boolean.ensures ∙ ap (λ s. s ++ boolean true ∷ []) c.in_ok-key.ensures
    ∙ ap (λ b. told_members c.args.out.now (protected_member b)) (sym c.if-protected.true)
