use Rattle.std.proofs.Common.{◌≡◌, ◌++◌, take}
use Rattle.book_policy_idle.specs.Idle.{placed_at}
use Rattle.book_policy_idle.proofs.in_force.add_placed.Given as goal

abbrev pub invariant-loop-index : goal.invariant-loop-index
invariant-loop-index l = l.list ≡ l.fn.list ++ placed_at l.protected l.at 0 (take l.index l.entries)
