use Rattle.book_desk_loop.proofs.Serving.{goes_none, goes_then}
use Rattle.book_desk_loop.proofs.looping.Server.give_rests.Goals as goal

pub loop-place-init : goal.loop-place-init
loop-place-init g c = goes_none g.S.Read.remaining g.S.Write.contents g.M.Service.serving g.F.Faults.tells c.args.self.now c.args.faults.now

pub loop-place-preserved : goal.loop-place-preserved
loop-place-preserved g c =
    goes_then g.S.Read.remaining g.S.Write.contents g.M.Service.serving g.F.Faults.tells c.args.self.now c.loop-place.self c.give_rest.new.self c.args.faults.now c.loop-place.faults c.give_rest.new.faults
    c.loop-place.invariant c.give_rest.ensures.goes

pub returns-in_err-give_rest : goal.returns-in_err-give_rest
returns-in_err-give_rest g c =
    goes_then g.S.Read.remaining g.S.Write.contents g.M.Service.serving g.F.Faults.tells c.args.self.now c.loop-place.self c.give_rest.new.self c.args.faults.now c.loop-place.faults c.give_rest.new.faults
    c.loop-place.invariant c.give_rest.ensures.goes
