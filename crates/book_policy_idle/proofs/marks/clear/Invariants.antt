use Rattle.std.proofs.Common.{take}
use Rattle.book_policy_idle.specs.Marks.{IsCleared}
use Rattle.book_policy_idle.proofs.marks.clear.Given as goal

-- the leaves and the marks that the entries so far leave
abbrev pub invariant-loop-placed : goal.invariant-loop-placed
invariant-loop-placed l = IsCleared l.circle l.here l.fn.marks.items (take l.placed-index l.list) l.left l.marks.items
