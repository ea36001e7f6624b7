use Rattle.book_desk_connections.proofs.Common.{ℕ, List, [], take, ap, sym, subst, History, Entry, AreServed, receives}
use Rattle.std.proofs.Common.{refl}
use Rattle.std.specs.Io.KnownBytes.{Consumes}
use Rattle.std.proofs.KnownBytes.{Consumes-kept, Consumes-nil}
use Rattle.book_desk_connections.proofs.Histories.{number_held, reads_none}
use Rattle.book_desk_connections.proofs.Streams.{still_held}
use Rattle.book_desk_connections.proofs.moves.hold_once.Goals as goal

pub returns-in-Ok-eq0-clause-held : goal.returns-in-Ok-eq0-clause-held
returns-in-Ok-eq0-clause-held g c =
    let P : List ℕ → Type 0 = λ t. Consumes (g.R.Read.remaining c.args.reader.now) (g.R.Read.remaining c.read.new.self) t in (
      [],
      subst P (ap (λ (n : ℕ). take n c.read.new.buf) c.in-Ok-eq0.field-0-test) c.in-Ok-eq0.ensures.bytes.0,
      λ histories log s. reads_none histories log _ _ _ s,
    )

pub returns-in-Err-clause-held : goal.returns-in-Err-clause-held
returns-in-Err-clause-held g c = ([], Consumes-kept _ _ _ [] (Consumes-nil _) c.in-Err.ensures.bytes, λ histories log s. reads_none histories log _ _ _ s)

pub returns-then-is_empty-clause-held : goal.returns-then-is_empty-clause-held
returns-then-is_empty-clause-held g c = ([], Consumes-nil _, λ histories log s. reads_none histories log _ _ _ s)

pub returns-in-Ok-hold-clause-held : goal.returns-in-Ok-hold-clause-held
returns-in-Ok-hold-clause-held g c =
    let r = c.requires in
    let places = c.args.connections.now.places.items in
    let bytes : List ℕ = take c.in-Ok.count c.read.new.buf in
    let Q : ℕ → Type 0 = λ k. (histories : ℕ → History) (log : List Entry) → AreServed histories log c.args.connections.now.opened places
    → AreServed (receives histories k bytes) log c.hold.new.self.opened c.hold.new.self.places.items in
    (bytes, c.in-Ok.ensures.bytes.0, subst Q (sym (number_held places c.args.place r.0 r.1)) (λ histories log s. c.hold.ensures.served r.0 r.1 histories log s))

pub returns-in-Err-hold-clause-held : goal.returns-in-Err-hold-clause-held
returns-in-Err-hold-clause-held g c =
    let r = c.requires in
    let places = c.args.connections.now.places.items in
    let bytes : List ℕ = take c.in-Ok.count c.read.new.buf in
    let Q : ℕ → Type 0 = λ k. (histories : ℕ → History) (log : List Entry) → AreServed histories log c.args.connections.now.opened places
    → AreServed (receives histories k bytes) log c.hold.new.self.opened c.hold.new.self.places.items in
    (bytes, c.in-Ok.ensures.bytes.0, subst Q (sym (number_held places c.args.place r.0 r.1)) (λ histories log s. c.hold.ensures.served r.0 r.1 histories log s))

pub returns-in-Ok-hold-clause-there : goal.returns-in-Ok-hold-clause-there
returns-in-Ok-hold-clause-there g c sound =
    let r = c.requires in
    still_held c.args.place c.args.connections.now.places.items c.hold.new.self.places.items r.0 r.1 (c.in-Ok-hold.ensures.there r.0 r.1)

pub returns-in-Err-hold-clause-there : goal.returns-in-Err-hold-clause-there
returns-in-Err-hold-clause-there g c sound = absurd (sound c.in-Err-hold.fault refl)
