use Rattle.std.proofs.Common.{take}
use Rattle.book_policy_idle.specs.Marks.{MarksLeft, SparesEach}
use Rattle.book_policy_idle.proofs.marks.clear_each.Given as goal

abbrev pub invariant-loop-asker : goal.invariant-loop-asker
invariant-loop-asker l = MarksLeft (SparesEach l.here l.is_book l.list (take l.asker-index l.askers)) l.fn.marks.items l.marks.items
