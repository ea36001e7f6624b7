use Rattle.std.specs.Prelude.{IfSome}
use Rattle.std.proofs.Common.{ℕ}
use Rattle.book_desk_loop.specs.Serving.{MayGiveWayAt}
use Rattle.book_desk_loop.proofs.giving_way.longest.Given as goal

abbrev pub invariant-loop-place : goal.invariant-loop-place
invariant-loop-place g l = IfSome l.found (λ (place : ℕ). MayGiveWayAt l.connections.places.items l.sockets place)
