use Rattle.book_desk_loop.proofs.Serving.{goes_keeps, goes_then}
use Rattle.book_desk_loop.proofs.looping.Server.give_again.Goals as goal

pub loop-place-init : goal.loop-place-init
loop-place-init g c = goes_keeps g.S.Read.remaining g.S.Write.contents g.M.Service.serving g.F.Faults.tells c.args.self.now _ c.args.faults.now (λ limits first faults y. y)

pub loop-place-preserved : goal.loop-place-preserved
loop-place-preserved g c =
    goes_then g.S.Read.remaining g.S.Write.contents g.M.Service.serving g.F.Faults.tells c.args.self.now c.loop-place.self c.give_turn.new.self c.args.faults.now c.loop-place.faults c.give_turn.new.faults
    c.loop-place.invariant c.give_turn.ensures.goes

pub returns-in_err-give_turn : goal.returns-in_err-give_turn
returns-in_err-give_turn g c =
    goes_then g.S.Read.remaining g.S.Write.contents g.M.Service.serving g.F.Faults.tells c.args.self.now c.loop-place.self c.give_turn.new.self c.args.faults.now c.loop-place.faults c.give_turn.new.faults
    c.loop-place.invariant c.give_turn.ensures.goes
