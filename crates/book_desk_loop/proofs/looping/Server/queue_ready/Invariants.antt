use Rattle.book_desk_loop.specs.Serving.{KeepsOn}
use Rattle.book_desk_loop.proofs.looping.Server.queue_ready.Given as goal

abbrev pub invariant-loop-place : goal.invariant-loop-place
invariant-loop-place g l = KeepsOn g.S.Read.remaining g.S.Write.contents g.M.Service.serving l.fn.self l.self
