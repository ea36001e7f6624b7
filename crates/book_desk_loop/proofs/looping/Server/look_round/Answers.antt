use Rattle.book_desk_loop.proofs.Serving.{keeps_then}
use Rattle.book_desk_loop.proofs.looping.Server.look_round.Goals as goal

pub returns : goal.returns
returns g c = keeps_then g.S.Read.remaining g.S.Write.contents g.M.Service.serving c.args.self.now c.note_store.new.self c.sweep_at.new.self c.note_store.ensures c.sweep_at.ensures
