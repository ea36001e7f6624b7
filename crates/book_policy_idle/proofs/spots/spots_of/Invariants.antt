use Rattle.std.proofs.Common.{◌≡◌, map, take}
use Rattle.book_policy_idle.specs.Marks.{spot_at}
use Rattle.book_policy_idle.proofs.spots.spots_of.Given as goal

abbrev pub invariant-loop-path : goal.invariant-loop-path
invariant-loop-path l = l.spots ≡ map (spot_at l.entries) (take l.path-index l.paths)
