use Rattle.book_desk_connections.proofs.Common.{ℕ, List, [], take, ap, sym, subst, AreServed, is_sent}
use Rattle.std.specs.Io.KnownBytes.{Appends}
use Rattle.std.proofs.KnownBytes.{Appends-kept, Appends-nil}
use Rattle.std.proofs.Common.{refl}
use Rattle.book_desk_connections.proofs.Histories.{sends_none, number_held, taken_of}
use Rattle.book_desk_connections.proofs.Streams.{still_held}
use Rattle.book_desk_connections.proofs.moves.write_once.Goals as goal

pub returns-in-None-clause-sent : goal.returns-in-None-clause-sent
returns-in-None-clause-sent g c = ([], Appends-nil _, λ histories log s. sends_none histories log _ _ _ s)

pub returns-then-is_empty-clause-sent : goal.returns-then-is_empty-clause-sent
returns-then-is_empty-clause-sent g c = ([], Appends-nil _, λ histories log s. sends_none histories log _ _ _ s)

pub returns-in-Ok-did_send-clause-sent : goal.returns-in-Ok-did_send-clause-sent
returns-in-Ok-did_send-clause-sent g c =
    let x = c.in-Some.ensures.there in
    let n = c.in-Ok.count in
    let P : List ℕ → Type 0 = λ t. Appends (g.W.Write.contents c.args.writer.now) (g.W.Write.contents c.write.new.self) t in (
      take n x.0.connection.unsent,
      subst P (taken_of n c.in-Some.bytes.now x.2 x.0.connection.unsent x.3 c.in-Ok.ensures.bound) c.in-Ok.ensures.bytes,
      λ histories log s.
          let Q : ℕ → Type 0 = λ k. AreServed (is_sent histories k (take n x.0.connection.unsent)) log c.did_send.new.self.opened c.did_send.new.self.places.items in
          subst Q (sym (number_held c.args.connections.now.places.items c.args.place x.0 x.1)) (c.did_send.ensures.sent x.0 x.1 histories log s),
    )

pub returns-in-Err-did_send-clause-sent : goal.returns-in-Err-did_send-clause-sent
returns-in-Err-did_send-clause-sent g c =
    let x = c.in-Some.ensures.there in
    let n = c.in-Ok.count in
    let P : List ℕ → Type 0 = λ t. Appends (g.W.Write.contents c.args.writer.now) (g.W.Write.contents c.write.new.self) t in (
      take n x.0.connection.unsent,
      subst P (taken_of n c.in-Some.bytes.now x.2 x.0.connection.unsent x.3 c.in-Ok.ensures.bound) c.in-Ok.ensures.bytes,
      λ histories log s.
          let Q : ℕ → Type 0 = λ k. AreServed (is_sent histories k (take n x.0.connection.unsent)) log c.did_send.new.self.opened c.did_send.new.self.places.items in
          subst Q (sym (number_held c.args.connections.now.places.items c.args.place x.0 x.1)) (c.did_send.ensures.sent x.0 x.1 histories log s),
    )

pub returns-in-Err-clause-sent : goal.returns-in-Err-clause-sent
returns-in-Err-clause-sent g c = ([], Appends-kept _ _ _ [] (Appends-nil _) c.in-Err.ensures.bytes, λ histories log s. sends_none histories log _ _ _ s)

pub returns-in-Ok-eq0-clause-sent : goal.returns-in-Ok-eq0-clause-sent
returns-in-Ok-eq0-clause-sent g c =
    let P : List ℕ → Type 0 = λ t. Appends (g.W.Write.contents c.args.writer.now) (g.W.Write.contents c.write.new.self) t in (
      [],
      subst P (ap (λ (n : ℕ). take n c.in-Some.bytes.now) c.in-Ok-eq0.field-0-test) c.in-Ok-eq0.ensures.bytes,
      λ histories log s. sends_none histories log _ _ _ s,
    )

pub returns-in-Ok-did_send-clause-there : goal.returns-in-Ok-did_send-clause-there
returns-in-Ok-did_send-clause-there g c sound =
    let h = c.in-Some.ensures.there in
    let x = c.in-Ok-did_send.ensures.left h.0 h.1 in
    still_held c.args.place c.args.connections.now.places.items c.did_send.new.self.places.items h.0 h.1 (x.0, x.1, x.2)

pub returns-in-Err-did_send-clause-there : goal.returns-in-Err-did_send-clause-there
returns-in-Err-did_send-clause-there g c sound = absurd (sound c.in-Err-did_send.fault refl)
