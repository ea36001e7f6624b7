use Rattle.book_wire_json.proofs.Common.{◌≡◌, [], map, drop}
use Rattle.book_wire_json.specs.Properties.{properties_after}
use Rattle.book_wire_json.proofs.properties.properties_of.Given as goal

-- the properties so far, and those of the names that are left, are those of all names
abbrev pub invariant-loop-name : goal.invariant-loop-name
invariant-loop-name l =
    properties_after l.found.items (map (λ n. n.now) (drop l.name-index l.names)) ≡ properties_after [] (map (λ n. n.now) l.names)
