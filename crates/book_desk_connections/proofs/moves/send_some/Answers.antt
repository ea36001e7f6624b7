use Rattle.book_desk_connections.proofs.Streams.{serves_sent}
use Rattle.book_desk_connections.proofs.moves.send_some.Goals as goal

pub returns-clause-served : goal.returns-clause-served
returns-clause-served g c =
    let w = c.write_once.ensures in
    let old = c.args.connections.now in
    let new = c.write_once.new.connections in (
      w.sent.0,
      serves_sent g.M.Service.serving g.S.Read.remaining g.S.Write.contents c.args.place old new c.args.stream.now c.write_once.new.writer w.sent.0
          w.sent.1 w.opened w.others w.service w.sent.2,
    )
