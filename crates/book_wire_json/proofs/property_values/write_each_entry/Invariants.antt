use Rattle.book_wire_json.proofs.Common.{◌≡◌, map, drop}
use Rattle.book_wire_json.specs.PropertyValues.{acl_entry_data}
use Rattle.book_wire_json.specs.Writing.{told}
use Rattle.book_wire_json.proofs.property_values.write_each_entry.Given as goal

-- what is told so far, and then what follows
abbrev pub invariant-loop-entry : goal.invariant-loop-entry
invariant-loop-entry l = told l.out (map acl_entry_data (drop l.entry-index l.entries)) ≡ told l.fn.out (map acl_entry_data l.entries)
