use Rattle.book_desk_loop.proofs.Serving.{keeps_then}
use Rattle.book_desk_loop.proofs.looping.Server.wait.Goals as goal

pub returns : goal.returns
returns g c =
    keeps_then g.S.Read.remaining g.S.Write.contents g.M.Service.serving c.args.self.now c.note_waiting.new.self c.give_control.new.self
    c.note_waiting.ensures c.give_control.ensures
