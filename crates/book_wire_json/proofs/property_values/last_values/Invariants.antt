use Rattle.book_wire_json.proofs.Common.{◌≡◌, drop}
use Rattle.serde_json.specs.Data.{no_members}
use Rattle.book_wire_json.specs.PropertyValues.{present, slots, with_properties}
use Rattle.book_wire_json.specs.Writing.{members_of}
use Rattle.book_wire_json.proofs.property_values.last_values.Given as goal

-- the members so far, and then the values that follow
abbrev pub invariant-loop-value : goal.invariant-loop-value
invariant-loop-value l =
    with_properties (members_of (present (slots l.last))) (drop l.value-index l.values) ≡ with_properties no_members l.values
