use Rattle.std.proofs.Common.{◌≡◌, ℕ, ◌<◌, get_or, None}
use Rattle.book_desk_loop.proofs.socket_places.are_none.Given as goal

abbrev pub invariant-loop-socket : goal.invariant-loop-socket
invariant-loop-socket g l = (k : ℕ) → k < l.socket-index → get_or l.sockets k None ≡ None
