use Rattle.book_desk_loop.specs.Serving.{GoesOn}
use Rattle.book_desk_loop.proofs.looping.Server.run.Given as goal

abbrev pub invariant-loop : goal.invariant-loop
invariant-loop g l = GoesOn g.S.Read.remaining g.S.Write.contents g.M.Service.serving g.F.Faults.tells l.fn.self l.fn.faults l.self l.faults
