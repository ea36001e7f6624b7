use Rattle.book_desk_connections.proofs.Streams.{at_end_then, turn_none, turn_sent}
use Rattle.book_desk_connections.proofs.moves.take_turn.Goals as goal

pub returns-then-is_reset-clause-turn : goal.returns-then-is_reset-clause-turn
returns-then-is_reset-clause-turn g c =
    turn_none g.M.Service.serving g.S.Read.remaining g.S.Write.contents c.args.place c.args.connections.now c.args.stream.now c.args.at_end.now

pub returns-in-Sends-clause-at_end : goal.returns-in-Sends-clause-at_end
returns-in-Sends-clause-at_end g c e was =
    let old = c.args.connections.now in
    let new = c.finish.new.connections in
    let sent = turn_sent g.M.Service.serving g.S.Read.remaining g.S.Write.contents c.args.place old new c.args.stream.now c.finish.new.stream c.args.at_end.now c.finish.ensures.served in
    at_end_then g.M.Service.serving g.S.Read.remaining g.S.Write.contents c.args.place old new c.args.stream.now c.finish.new.stream c.args.at_end.now sent e (was e)
