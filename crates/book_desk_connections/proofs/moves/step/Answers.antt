use Rattle.std.proofs.Common.{◌≡◌, true, refl, ap, ◌∙◌, subst, rules}
use Rattle.book_wire_serving.specs.declared.faults.StreamFault.{StreamFault}
use Rattle.book_desk_connections.specs.ManyConnections.{Holds}
use Rattle.book_desk_connections.specs.declared.connections.Accepted.{Accepted}
use Rattle.book_desk_connections.specs.declared.connections.Connections.{Connections}
use Rattle.book_desk_connections.specs.declared.moves.Turn.TheVariants.{Again, Done, Ended, Failed}
use Rattle.book_desk_connections.specs.declared.moves.Moved.{Moved}
use Rattle.book_desk_connections.specs.declared.moves.Moved.TheVariants as moved
use Rattle.book_desk_connections.proofs.Histories.{holds_one}
use Rattle.book_desk_connections.proofs.Streams.{at_end_after, at_end_then, still_then, turn_brought, turn_sent, turn_then}
use Rattle.book_desk_connections.proofs.moves.step.Goals as goal

done_ended : Done ≡ Ended → ⊥
done_ended e = cc

again_done : Again ≡ Done → ⊥
again_done e = cc

again_ended : Again ≡ Ended → ⊥
again_ended e = cc

failed_done : (fault : StreamFault) → Failed fault ≡ Done → ⊥
failed_done fault e = cc

failed_ended : (fault : StreamFault) → Failed fault ≡ Ended → ⊥
failed_ended fault e = cc

sound_of : (fault : StreamFault) (m : Moved) → m ≡ moved.Some → m ≡ moved.Failed fault → ⊥
sound_of fault m e f = cc

sound_nothing : (fault : StreamFault) (m : Moved) → m ≡ moved.Nothing → m ≡ moved.Failed fault → ⊥
sound_nothing fault m e f = cc

sound_ended : (fault : StreamFault) (m : Moved) → m ≡ moved.Ended → m ≡ moved.Failed fault → ⊥
sound_ended fault m e f = cc

pub returns-in-Failed-clause-there : goal.returns-in-Failed-clause-there
returns-in-Failed-clause-there g c sound = absurd (sound c.in-Failed.fault refl)

pub returns-in-Failed-clause-at_end : goal.returns-in-Failed-clause-at_end
returns-in-Failed-clause-at_end g c e was =
    let sent = turn_sent g.M.Service.serving g.S.Read.remaining g.S.Write.contents c.args.place c.args.connections.now c.send_some-wrote.new.connections c.args.stream.now c.send_some-wrote.new.stream c.args.at_end.now c.send_some-wrote.ensures.served in
    at_end_then g.M.Service.serving g.S.Read.remaining g.S.Write.contents c.args.place c.args.connections.now c.send_some-wrote.new.connections c.args.stream.now c.send_some-wrote.new.stream c.args.at_end.now sent e (was e)

pub returns-then-is_done : goal.returns-then-is_done
returns-then-is_done g c =
    let sent = turn_sent g.M.Service.serving g.S.Read.remaining g.S.Write.contents c.args.place c.args.connections.now c.send_some-wrote.new.connections c.args.stream.now c.send_some-wrote.new.stream c.args.at_end.now c.send_some-wrote.ensures.served in record {
      turn = sent;
      there = λ sound. c.send_some-wrote.ensures.there c.in_default.not-Failed;
      at_end = λ e was. at_end_then g.M.Service.serving g.S.Read.remaining g.S.Write.contents c.args.place c.args.connections.now c.send_some-wrote.new.connections c.args.stream.now c.send_some-wrote.new.stream c.args.at_end.now sent e (was e);
      stays_at_end = λ e. e;
      done = λ e. c.is_done.ensures c.if-is_done.true;
      ended = λ e. absurd (done_ended e);
    }

pub returns-then-not-takes_bytes : goal.returns-then-not-takes_bytes
returns-then-not-takes_bytes g c =
    let sent = turn_sent g.M.Service.serving g.S.Read.remaining g.S.Write.contents c.args.place c.args.connections.now c.send_some-wrote.new.connections c.args.stream.now c.send_some-wrote.new.stream c.args.at_end.now c.send_some-wrote.ensures.served in record {
      turn = sent;
      there = λ sound. c.send_some-wrote.ensures.there c.in_default.not-Failed;
      at_end = λ e was. at_end_then g.M.Service.serving g.S.Read.remaining g.S.Write.contents c.args.place c.args.connections.now c.send_some-wrote.new.connections c.args.stream.now c.send_some-wrote.new.stream c.args.at_end.now sent e (was e);
      stays_at_end = λ e. e;
      done = λ e. absurd (c.waits.ensures.done e);
      ended = λ e. absurd (c.waits.ensures.ended e);
    }

pub returns-in-Some : goal.returns-in-Some
returns-in-Some g c =
    let sent = turn_sent g.M.Service.serving g.S.Read.remaining g.S.Write.contents c.args.place c.args.connections.now c.send_some-wrote.new.connections c.args.stream.now c.send_some-wrote.new.stream c.args.at_end.now c.send_some-wrote.ensures.served in
    let still = c.send_some-wrote.ensures.there c.in_default.not-Failed in
    let brought = turn_then g.M.Service.serving g.S.Read.remaining g.S.Write.contents c.args.place c.args.connections.now c.send_some-wrote.new.connections c.bring.new.connections
    c.args.stream.now c.send_some-wrote.new.stream c.bring.new.stream c.args.at_end.now c.args.at_end.now sent
    (turn_brought g.M.Service.serving g.S.Read.remaining g.S.Write.contents c.args.place c.send_some-wrote.new.connections c.bring.new.connections c.send_some-wrote.new.stream c.bring.new.stream c.args.at_end.now c.bring.ensures.served)
    (λ h. h) still.number in
    record {
      turn = brought;
      there = λ sound. still_then c.args.place c.args.connections.now.places.items c.send_some-wrote.new.connections.places.items c.bring.new.connections.places.items still (c.bring.ensures.there (λ fault e. sound_of fault c.bring.result c.in-Some.is e));
      at_end = λ e was. at_end_then g.M.Service.serving g.S.Read.remaining g.S.Write.contents c.args.place c.args.connections.now c.bring.new.connections c.args.stream.now c.bring.new.stream c.args.at_end.now brought e (was e);
      stays_at_end = λ e. e;
      done = λ e. absurd (again_done e);
      ended = λ e. absurd (again_ended e);
    }

pub returns-in-Nothing : goal.returns-in-Nothing
returns-in-Nothing g c =
    let sent = turn_sent g.M.Service.serving g.S.Read.remaining g.S.Write.contents c.args.place c.args.connections.now c.send_some-wrote.new.connections c.args.stream.now c.send_some-wrote.new.stream c.args.at_end.now c.send_some-wrote.ensures.served in
    let still = c.send_some-wrote.ensures.there c.in_default.not-Failed in
    let brought = turn_then g.M.Service.serving g.S.Read.remaining g.S.Write.contents c.args.place c.args.connections.now c.send_some-wrote.new.connections c.bring.new.connections
    c.args.stream.now c.send_some-wrote.new.stream c.bring.new.stream c.args.at_end.now c.args.at_end.now sent
    (turn_brought g.M.Service.serving g.S.Read.remaining g.S.Write.contents c.args.place c.send_some-wrote.new.connections c.bring.new.connections c.send_some-wrote.new.stream c.bring.new.stream c.args.at_end.now c.bring.ensures.served)
    (λ h. h) still.number in
    record {
      turn = brought;
      there = λ sound. still_then c.args.place c.args.connections.now.places.items c.send_some-wrote.new.connections.places.items c.bring.new.connections.places.items still (c.bring.ensures.there (λ fault e. sound_nothing fault c.bring.result c.in-Nothing.is e));
      at_end = λ e was. at_end_then g.M.Service.serving g.S.Read.remaining g.S.Write.contents c.args.place c.args.connections.now c.bring.new.connections c.args.stream.now c.bring.new.stream c.args.at_end.now brought e (was e);
      stays_at_end = λ e. e;
      done = λ e. absurd (c.rests.ensures.done e);
      ended = λ e. absurd (c.rests.ensures.ended e);
    }

pub returns-in-Failed-bring : goal.returns-in-Failed-bring
returns-in-Failed-bring g c =
    let sent = turn_sent g.M.Service.serving g.S.Read.remaining g.S.Write.contents c.args.place c.args.connections.now c.send_some-wrote.new.connections c.args.stream.now c.send_some-wrote.new.stream c.args.at_end.now c.send_some-wrote.ensures.served in
    let still = c.send_some-wrote.ensures.there c.in_default.not-Failed in
    let brought = turn_then g.M.Service.serving g.S.Read.remaining g.S.Write.contents c.args.place c.args.connections.now c.send_some-wrote.new.connections c.bring.new.connections
    c.args.stream.now c.send_some-wrote.new.stream c.bring.new.stream c.args.at_end.now c.args.at_end.now sent
    (turn_brought g.M.Service.serving g.S.Read.remaining g.S.Write.contents c.args.place c.send_some-wrote.new.connections c.bring.new.connections c.send_some-wrote.new.stream c.bring.new.stream c.args.at_end.now c.bring.ensures.served)
    (λ h. h) still.number in
    record {
      turn = brought;
      there = λ sound. absurd (sound c.in-Failed-bring.fault refl);
      at_end = λ e was. at_end_then g.M.Service.serving g.S.Read.remaining g.S.Write.contents c.args.place c.args.connections.now c.bring.new.connections c.args.stream.now c.bring.new.stream c.args.at_end.now brought e (was e);
      stays_at_end = λ e. e;
      done = λ e. absurd (failed_done c.in-Failed-bring.fault e);
      ended = λ e. absurd (failed_ended c.in-Failed-bring.fault e);
    }

pub returns-in-Ended : goal.returns-in-Ended
returns-in-Ended g c =
    let sent = turn_sent g.M.Service.serving g.S.Read.remaining g.S.Write.contents c.args.place c.args.connections.now c.send_some-wrote.new.connections c.args.stream.now c.send_some-wrote.new.stream c.args.at_end.now c.send_some-wrote.ensures.served in
    let still = c.send_some-wrote.ensures.there c.in_default.not-Failed in
    let brought = turn_then g.M.Service.serving g.S.Read.remaining g.S.Write.contents c.args.place c.args.connections.now c.send_some-wrote.new.connections c.bring.new.connections
    c.args.stream.now c.send_some-wrote.new.stream c.bring.new.stream c.args.at_end.now c.args.at_end.now sent
    (turn_brought g.M.Service.serving g.S.Read.remaining g.S.Write.contents c.args.place c.send_some-wrote.new.connections c.bring.new.connections c.send_some-wrote.new.stream c.bring.new.stream c.args.at_end.now c.bring.ensures.served)
    (λ h. h) still.number in
    let same = c.bring.ensures.still c.in-Ended.is in
    let took : c.takes_bytes.result ≡ true = search rules in
    let open_one = c.takes_bytes.ensures.takes took in
    record {
      turn = brought;
      there = λ sound. still_then c.args.place c.args.connections.now.places.items c.send_some-wrote.new.connections.places.items c.bring.new.connections.places.items still
          (c.bring.ensures.there (λ fault e. sound_ended fault c.bring.result c.in-Ended.is e));
      at_end = λ e was. at_end_after g.M.Service.serving g.S.Read.remaining g.S.Write.contents c.args.place c.args.connections.now c.bring.new.connections c.args.stream.now c.bring.new.stream c.args.at_end.now brought
          (c.bring.ensures.ended c.in-Ended.is) was;
      stays_at_end = λ e. refl;
      done = λ e. absurd (c.ends.ensures.done e);
      ended = λ e.
          let x = c.ends.ensures.ended e in
          let P : Connections g.row.M.Denot → Type 0 = λ t. Holds t.places.items c.args.place x.0 in
          let before = subst P same.0 x.1 in
          let one = holds_one c.send_some-wrote.new.connections.places.items c.args.place x.0 open_one.0 before open_one.1 in
          (refl, (x.0, x.1, ap (λ (t : Accepted). t.connection.closing) one ∙ open_one.2, same.1 x.0 before, x.2));
    }
