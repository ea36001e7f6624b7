use Rattle.std.proofs.Common.{◌≡◌, ◌++◌, take}
use Rattle.book_policy_idle.specs.Alike.{chosen}
use Rattle.book_policy_idle.proofs.alike.add_chosen.Given as goal

abbrev pub invariant-loop-placed : goal.invariant-loop-placed
invariant-loop-placed l = l.entries ≡ l.fn.entries ++ chosen l.which l.index (take l.placed-index l.list)
