use Rattle.book_wire.proofs.Common.{◌≡◌, ◌++◌}
use Rattle.book_wire.specs.Sending.{rest_of_body}
use Rattle.book_wire.proofs.bodies.push_chunk.Given as goal

abbrev pub invariant-loop-next : goal.invariant-loop-next
invariant-loop-next l = l.out.items ++ rest_of_body l.content l.next ≡ l.fn.out.items ++ rest_of_body l.content l.from
