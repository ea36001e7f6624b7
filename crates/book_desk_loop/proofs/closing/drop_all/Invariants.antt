use Rattle.book_desk_loop.specs.Closing.{DropsSome}
use Rattle.book_desk_loop.proofs.closing.drop_all.Given as goal

abbrev pub invariant-loop : goal.invariant-loop
invariant-loop g l = DropsSome (g.S.Read.remaining l.fn.stream) (g.S.Read.remaining l.stream)
