use Rattle.book_desk_loop.specs.Serving.{GoesOn}
use Rattle.book_desk_loop.proofs.looping.Server.give_rests.Given as goal

abbrev pub invariant-loop-place : goal.invariant-loop-place
invariant-loop-place g l = GoesOn g.S.Read.remaining g.S.Write.contents g.M.Service.serving g.F.Faults.tells l.fn.self l.fn.faults l.self l.faults
