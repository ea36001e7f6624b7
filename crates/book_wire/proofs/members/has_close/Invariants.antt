use Rattle.book_wire.proofs.Common.{◌≡◌, ◌≤◌, has_close}
use Rattle.book_wire.proofs.CommaLists.{left_at}
use Rattle.book_wire.proofs.members.has_close.Given as goal

-- no member before is `close`
abbrev pub invariant-loop-i : goal.invariant-loop-i
invariant-loop-i l = (l.start ≤ l.i) × (left_at l.value l.start l.i ≡ has_close l.value)
