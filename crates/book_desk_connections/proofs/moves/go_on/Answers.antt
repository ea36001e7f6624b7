use Rattle.std.proofs.Common.{◌≡◌}
use Rattle.book_wire_serving.specs.declared.faults.StreamFault.{StreamFault}
use Rattle.book_desk_connections.specs.declared.moves.Turn.{Turn}
use Rattle.book_desk_connections.specs.declared.moves.Turn.TheVariants.{Again, Failed}
use Rattle.book_desk_connections.proofs.Streams.{at_end_then, still_then, turn_sent, turn_then}
use Rattle.book_desk_connections.proofs.moves.go_on.Goals as goal

again_failed : (fault : StreamFault) (turn : Turn) → turn ≡ Again → turn ≡ Failed fault → ⊥
again_failed fault turn e f = cc

pub returns-in-Again : goal.returns-in-Again
returns-in-Again g c =
    let s = c.step-turn.ensures in
    let f = c.finish.ensures in
    let still = s.there (λ fault e. again_failed fault c.step-turn.result c.in-Again.is e) in
    let sent = turn_sent g.M.Service.serving g.S.Read.remaining g.S.Write.contents c.args.place c.step-turn.new.connections c.finish.new.connections
    c.step-turn.new.stream c.finish.new.stream c.step-turn.new.at_end f.served in
    record {
      turn = turn_then g.M.Service.serving g.S.Read.remaining g.S.Write.contents c.args.place c.args.connections.now c.step-turn.new.connections c.finish.new.connections
          c.args.stream.now c.step-turn.new.stream c.finish.new.stream c.args.at_end.now c.step-turn.new.at_end s.turn sent s.stays_at_end still.number;
      there = λ sound. still_then c.args.place c.args.connections.now.places.items c.step-turn.new.connections.places.items c.finish.new.connections.places.items still (f.there sound);
      at_end = λ e was. at_end_then g.M.Service.serving g.S.Read.remaining g.S.Write.contents c.args.place c.step-turn.new.connections c.finish.new.connections
          c.step-turn.new.stream c.finish.new.stream c.step-turn.new.at_end sent e (s.at_end e was);
      done = f.done;
      ended = λ e. absurd (f.ended e);
    }
