use Rattle.book_wire_json.proofs.Common.{◌≡◌, map, drop}
use Rattle.book_wire_json.specs.PropertyValues.{privilege_data}
use Rattle.book_wire_json.specs.Writing.{told}
use Rattle.book_wire_json.proofs.property_values.write_each_privilege.Given as goal

-- what is told so far, and then what follows
abbrev pub invariant-loop-privilege : goal.invariant-loop-privilege
invariant-loop-privilege l = told l.out (map privilege_data (drop l.privilege-index l.privileges)) ≡ told l.fn.out (map privilege_data l.privileges)
