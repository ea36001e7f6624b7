use Rattle.std.proofs.Common.{take}
use Rattle.book_policy_idle.specs.Marks.{AreUnmarked}
use Rattle.book_policy_idle.proofs.marks.has_marked.Given as goal

abbrev pub invariant-loop-placed : goal.invariant-loop-placed
invariant-loop-placed l = AreUnmarked l.marks (take l.placed-index l.list)
