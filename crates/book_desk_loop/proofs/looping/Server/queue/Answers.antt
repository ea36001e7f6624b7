use Rattle.std.proofs.Common.{refl}
use Rattle.book_desk_loop.proofs.Serving.{keeps_lines}
use Rattle.book_desk_loop.proofs.looping.Server.queue.Goals as goal

pub returns-in_err-push : goal.returns-in_err-push
returns-in_err-push g c = keeps_lines g.S.Read.remaining g.S.Write.contents g.M.Service.serving c.args.self.now (record c.args.self.now { sockets = c.note_queued.new.sockets }) (record { limits = refl; left = refl; held = refl }) refl c.note_queued.ensures

pub returns : goal.returns
returns g c = keeps_lines g.S.Read.remaining g.S.Write.contents g.M.Service.serving c.args.self.now (record c.args.self.now { sockets = c.note_queued.new.sockets }) (record { limits = refl; left = refl; held = refl }) refl c.note_queued.ensures
