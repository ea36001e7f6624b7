use Rattle.book_wire_json.proofs.Common.{Some, map, take}
use Rattle.book_wire_json.specs.Privileges.{AreLeavesIn}
use Rattle.book_wire_json.proofs.privileges.leaves.Given as goal

-- the leaves of the names so far
abbrev pub invariant-loop-name : goal.invariant-loop-name
invariant-loop-name l = AreLeavesIn (map (λ w. w.now) (take l.name-index l.names)) (Some l.set)
