use Rattle.book_wire_json.proofs.Common.{map, take, AllName}
use Rattle.book_wire_json.proofs.principals.all_named.Given as goal

-- the principals of the texts so far
abbrev pub invariant-loop-text : goal.invariant-loop-text
invariant-loop-text l = AllName (map (λ w. w.now) (take l.text-index l.texts)) l.found
