use Rattle.std.proofs.Common.{◌≡◌, ◌++◌, take}
use Rattle.book_policy_idle.specs.Idle.{placed_along}
use Rattle.book_policy_idle.proofs.in_force.add_along.Given as goal

abbrev pub invariant-loop-path : goal.invariant-loop-path
invariant-loop-path l = l.list ≡ l.fn.list ++ placed_along l.protected l.entries (take l.path-index l.paths)
