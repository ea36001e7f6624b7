use Rattle.book_wire.proofs.Common.{◌≡◌, ℕ, ◌-◌, ◌^◌, List, ◌++◌, false, length, SoFar}
use Rattle.std.proofs.Common.{min}
use Rattle.book_wire.proofs.connection.Connection.answer_some.Given as goal

abbrev pub invariant-loop-alloc : goal.invariant-loop-alloc
invariant-loop-alloc g l =
    (more : List ℕ) × (count : ℕ) × (l.answered ≡ min count (2 ^ 64 - 1)) × (l.self.unsent ≡ l.fn.self.unsent ++ more)
    × SoFar (g.M.Service.serving l.fn.service) l.fn.self.unread more count (g.M.Service.serving l.service) l.self.unread
    × (l.self.closing ≡ false) × (l.self.stalled ≡ false)

abbrev pub decreases-loop-alloc : goal.decreases-loop-alloc
decreases-loop-alloc g l = length l.self.unread
