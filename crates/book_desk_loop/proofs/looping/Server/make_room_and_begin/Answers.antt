use Rattle.book_desk_loop.proofs.Serving.{keeps_goes}
use Rattle.book_desk_loop.proofs.looping.Server.make_room_and_begin.Goals as goal

pub returns : goal.returns
returns g c =
    keeps_goes g.S.Read.remaining g.S.Write.contents g.M.Service.serving g.F.Faults.tells c.args.self.now c.make_room.new.self c.begin_held.new.self c.args.faults.now c.begin_held.new.faults
    c.make_room.ensures c.begin_held.ensures
