use Rattle.book_wire.proofs.Common.{◌≡◌, ◌+◌, length}
use Rattle.book_wire.specs.Sending.{rest_of_body}
use Rattle.book_wire.proofs.bodies.count_from.Given as goal

abbrev pub invariant-loop-next : goal.invariant-loop-next
invariant-loop-next l = l.counted.size + length (rest_of_body l.content l.next) ≡ length (rest_of_body l.content l.from)
