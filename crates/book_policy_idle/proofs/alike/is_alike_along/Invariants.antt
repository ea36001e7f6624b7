use Rattle.std.proofs.Common.{take}
use Rattle.book_policy_idle.specs.Alike.{AlikeAlong}
use Rattle.book_policy_idle.proofs.alike.is_alike_along.Given as goal

abbrev pub invariant-loop-spot : goal.invariant-loop-spot
invariant-loop-spot l = AlikeAlong l.index l.askers (take l.spot-index l.spots)
