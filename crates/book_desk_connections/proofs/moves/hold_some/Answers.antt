use Rattle.book_desk_connections.proofs.Streams.{serves_held}
use Rattle.book_desk_connections.proofs.moves.hold_some.Goals as goal

pub returns-clause-served : goal.returns-clause-served
returns-clause-served g c =
    let r = c.hold_once.ensures in
    let old = c.args.connections.now in
    let new = c.hold_once.new.connections in (
      r.held.0,
      serves_held g.M.Service.serving g.S.Read.remaining g.S.Write.contents c.args.place old new c.args.stream.now c.hold_once.new.reader r.held.0
          r.held.1 r.opened r.others r.service r.held.2,
    )
