use Rattle.book_wire.proofs.Common.{◌≡◌, ℕ, List, ◌++◌, length, Appends}
use Rattle.book_wire.proofs.stream.send_all.Given as goal

abbrev pub invariant-loop-unsent : goal.invariant-loop-unsent
invariant-loop-unsent g l =
    (front : List ℕ) × Appends (g.W.Write.contents l.fn.writer) (g.W.Write.contents l.writer) front
    × (l.fn.connection.unsent ≡ front ++ l.connection.unsent) × (l.connection.unread ≡ l.fn.connection.unread)
    × (l.connection.closing ≡ l.fn.connection.closing) × (l.connection.stalled ≡ l.fn.connection.stalled)

abbrev pub decreases-loop-unsent : goal.decreases-loop-unsent
decreases-loop-unsent g l = length l.connection.unsent
