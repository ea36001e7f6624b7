use Rattle.book_desk_loop.proofs.Serving.{kept_take}
use Rattle.book_desk_loop.proofs.looping.Server.take.Goals as goal

pub returns-in-Ok : goal.returns-in-Ok
returns-in-Ok g c limits first faults y =
    let s = c.args.self.now in (
      y.0,
      kept_take g.S.Read.remaining g.S.Write.contents g.M.Service.serving limits first faults s.connections s.sockets.items s.left c.fewer-self.result s.held c.in-Ok.stream y.1 c.requires.none_held c.fewer-self.ensures,
    )
