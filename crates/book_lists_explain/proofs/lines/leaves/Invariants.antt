use Rattle.book_lists_explain.proofs.Common.{map, take, AreLeaves}
use Rattle.book_lists_explain.proofs.lines.leaves.Given as goal

-- the leaves of the names so far
abbrev pub invariant-loop-name : goal.invariant-loop-name
invariant-loop-name l = AreLeaves (map (λ w. w.now) (take l.name-index l.names)) l.set
