use Rattle.std.proofs.Common.{take}
use Rattle.std.specs.Prelude.{All}
use Rattle.book_policy_idle.specs.Alike.{AreDecidedAlike}
use Rattle.book_policy_idle.specs.Marks.{Both}
use Rattle.book_policy_idle.proofs.alike.is_alike_for_each.Given as goal

abbrev pub invariant-loop-asker : goal.invariant-loop-asker
invariant-loop-asker l = All (Both (AreDecidedAlike l.compared.whole l.compared.others) l.here l.is_book) (take l.asker-index l.askers)
