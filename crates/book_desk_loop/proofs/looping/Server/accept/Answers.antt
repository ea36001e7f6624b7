use Rattle.book_desk_loop.proofs.Serving.{goes_none, goes_then}
use Rattle.book_desk_loop.proofs.looping.Server.accept.Goals as goal

pub loop-init : goal.loop-init
loop-init g c = goes_none g.S.Read.remaining g.S.Write.contents g.M.Service.serving g.F.Faults.tells c.args.self.now c.args.faults.now

pub loop-preserved : goal.loop-preserved
loop-preserved g c =
    goes_then g.S.Read.remaining g.S.Write.contents g.M.Service.serving g.F.Faults.tells c.args.self.now c.loop.self c.accept_one.new.self c.args.faults.now c.loop.faults c.accept_one.new.faults
    c.loop.invariant c.accept_one.ensures

pub returns-in_err-accept_one : goal.returns-in_err-accept_one
returns-in_err-accept_one g c =
    goes_then g.S.Read.remaining g.S.Write.contents g.M.Service.serving g.F.Faults.tells c.args.self.now c.loop.self c.accept_one.new.self c.args.faults.now c.loop.faults c.accept_one.new.faults
    c.loop.invariant c.accept_one.ensures

pub returns : goal.returns
returns g c =
    goes_then g.S.Read.remaining g.S.Write.contents g.M.Service.serving g.F.Faults.tells c.args.self.now c.loop.self c.make_room_and_begin.new.self c.args.faults.now c.loop.faults c.make_room_and_begin.new.faults
    c.loop.invariant c.make_room_and_begin.ensures
