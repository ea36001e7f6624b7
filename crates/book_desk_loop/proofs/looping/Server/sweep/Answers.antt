use Rattle.book_desk_loop.proofs.Serving.{keeps_then}
use Rattle.book_desk_loop.proofs.looping.Server.sweep.Goals as goal

pub loop-place-init : goal.loop-place-init
loop-place-init g c limits first faults y = y

pub loop-place-preserved : goal.loop-place-preserved
loop-place-preserved g c =
    keeps_then g.S.Read.remaining g.S.Write.contents g.M.Service.serving c.args.self.now c.loop-place.self c.release_if_over.new.self c.loop-place.invariant c.release_if_over.ensures
