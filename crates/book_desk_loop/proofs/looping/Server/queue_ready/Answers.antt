use Rattle.book_desk_loop.proofs.Serving.{keeps_then}
use Rattle.book_desk_loop.proofs.looping.Server.queue_ready.Goals as goal

pub loop-place-init : goal.loop-place-init
loop-place-init g c limits first faults y = y

pub loop-place-preserved : goal.loop-place-preserved
loop-place-preserved g c =
    keeps_then g.S.Read.remaining g.S.Write.contents g.M.Service.serving c.args.self.now c.loop-place.self c.queue_ready_one.new.self c.loop-place.invariant c.queue_ready_one.ensures

pub returns-in_err-queue_ready_one : goal.returns-in_err-queue_ready_one
returns-in_err-queue_ready_one g c =
    keeps_then g.S.Read.remaining g.S.Write.contents g.M.Service.serving c.args.self.now c.loop-place.self c.queue_ready_one.new.self c.loop-place.invariant c.queue_ready_one.ensures
