use Rattle.book_desk_connections.proofs.Streams.{serves_read}
use Rattle.book_desk_connections.proofs.moves.take_some.Goals as goal

pub returns-clause-served : goal.returns-clause-served
returns-clause-served g c =
    let r = c.read_once.ensures in
    let old = c.args.connections.now in
    let new = c.read_once.new.connections in (
      r.served.0,
      serves_read g.M.Service.serving g.S.Read.remaining g.S.Write.contents c.args.place old new c.args.stream.now c.read_once.new.reader r.served.0
          r.served.1 r.opened r.others r.served.2,
    )
