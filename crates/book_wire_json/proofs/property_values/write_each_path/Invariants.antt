use Rattle.book_wire_json.proofs.Common.{◌≡◌, map, drop, string}
use Rattle.book_wire_json.specs.Writing.{told}
use Rattle.book_wire_json.proofs.property_values.write_each_path.Given as goal

-- what is told so far, and then what follows
abbrev pub invariant-loop-principal : goal.invariant-loop-principal
invariant-loop-principal l = told l.out (map string (drop l.principal-index l.principals)) ≡ told l.fn.out (map string l.principals)
