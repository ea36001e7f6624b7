use Rattle.std.proofs.Common.{◌-◌, ◌+◌, length}
use Rattle.book_desk_loop.specs.Serving.{LinesStay}
use Rattle.book_desk_loop.proofs.socket_places.make_places.Given as goal

abbrev pub invariant-loop-sockets : goal.invariant-loop-sockets
invariant-loop-sockets g l = LinesStay l.fn.sockets.items l.sockets.items

abbrev pub decreases-loop-sockets : goal.decreases-loop-sockets
decreases-loop-sockets g l = l.place + 1 - length l.sockets.items
