use Rattle.std.proofs.Common.{take}
use Rattle.book_policy_idle.specs.Marks.{MarksLeft, SparesAlong}
use Rattle.book_policy_idle.proofs.marks.clear_along.Given as goal

abbrev pub invariant-loop-path : goal.invariant-loop-path
invariant-loop-path l = MarksLeft (SparesAlong l.entries l.askers (take l.path-index l.paths)) l.fn.marks.items l.marks.items
