use Rattle.book_wire_json.proofs.Common.{◌≡◌, map, drop}
use Rattle.book_wire_json.specs.Rulings.{ruling_data}
use Rattle.book_wire_json.specs.Writing.{told}
use Rattle.book_wire_json.proofs.rulings.write_each.Given as goal

-- what is told so far, and then what follows
abbrev pub invariant-loop-ruling : goal.invariant-loop-ruling
invariant-loop-ruling l = told l.out (map ruling_data (drop l.ruling-index l.rulings)) ≡ told l.fn.out (map ruling_data l.rulings)
