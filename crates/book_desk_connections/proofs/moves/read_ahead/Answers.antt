use Rattle.std.proofs.Common.{refl}
use Rattle.book_desk_connections.proofs.Streams.{at_end_now, turn_none}
use Rattle.book_desk_connections.proofs.moves.read_ahead.Goals as goal

pub returns-then-at_end-clause-turn : goal.returns-then-at_end-clause-turn
returns-then-at_end-clause-turn g c =
    turn_none g.M.Service.serving g.S.Read.remaining g.S.Write.contents c.args.place c.args.connections.now c.args.stream.now c.args.at_end.now

pub returns-in-Ended-clause-at_end : goal.returns-in-Ended-clause-at_end
returns-in-Ended-clause-at_end g c e was =
    at_end_now g.S.Read.remaining g.S.Write.contents c.hold_some.new.stream (c.hold_some.ensures.ended c.in-Ended.is)

pub returns-in-Failed-clause-there : goal.returns-in-Failed-clause-there
returns-in-Failed-clause-there g c sound = absurd (sound c.in-Failed.fault refl)
