use Rattle.book_desk_loop.proofs.Serving.{goes_keeps, keeps_goes}
use Rattle.book_desk_loop.proofs.looping.Server.accept_one.Goals as goal

pub returns-in_err-take_waiting : goal.returns-in_err-take_waiting
returns-in_err-take_waiting g c = goes_keeps g.S.Read.remaining g.S.Write.contents g.M.Service.serving g.F.Faults.tells c.args.self.now c.take_waiting.new.self c.args.faults.now c.take_waiting.ensures

pub returns : goal.returns
returns g c =
    keeps_goes g.S.Read.remaining g.S.Write.contents g.M.Service.serving g.F.Faults.tells c.args.self.now c.take_waiting.new.self c.make_room_and_begin.new.self c.args.faults.now c.make_room_and_begin.new.faults
    c.take_waiting.ensures c.make_room_and_begin.ensures
