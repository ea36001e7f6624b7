use Rattle.book_desk_connections.proofs.Common.{ℕ, List, [], ◌++◌, take, map, ap, sym, subst, History, Entry, AreServed, entries, receives}
use Rattle.std.specs.Io.KnownBytes.{Consumes}
use Rattle.std.proofs.KnownBytes.{Consumes-kept, Consumes-nil}
use Rattle.book_wire_serving.specs.Serving.{Runs}
use Rattle.book_wire.specs.Stream.{Exchange, answered_of}
use Rattle.std.proofs.Common.{refl}
use Rattle.book_desk_connections.proofs.Histories.{receives_none, number_held}
use Rattle.book_desk_connections.proofs.Streams.{still_held}
use Rattle.book_desk_connections.proofs.moves.read_once.Goals as goal

pub returns-in-Ok-eq0-clause-served : goal.returns-in-Ok-eq0-clause-served
returns-in-Ok-eq0-clause-served g c =
    let P : List ℕ → Type 0 = λ t. Consumes (g.R.Read.remaining c.args.reader.now) (g.R.Read.remaining c.read.new.self) t in (
      [],
      subst P (ap (λ (n : ℕ). take n c.read.new.buf) c.in-Ok-eq0.field-0-test) c.in-Ok-eq0.ensures.bytes.0,
      λ histories log s. receives_none _ histories log _ _ _ s,
    )

pub returns-in-Err-clause-served : goal.returns-in-Err-clause-served
returns-in-Err-clause-served g c =
    ([], Consumes-kept _ _ _ [] (Consumes-nil _) c.in-Err.ensures.bytes, λ histories log s. receives_none _ histories log _ _ _ s)

pub returns-in-Ok-feed-clause-served : goal.returns-in-Ok-feed-clause-served
returns-in-Ok-feed-clause-served g c =
    let r = c.requires in
    let places = c.args.connections.now.places.items in
    let bytes : List ℕ = take c.in-Ok.count c.read.new.buf in
    let Q : ℕ → Type 0 = λ k. (histories : ℕ → History) (log : List Entry) → AreServed histories log c.args.connections.now.opened places
    → (more : List Exchange) × AreServed (receives histories k bytes) (log ++ entries k more) c.feed.new.self.opened c.feed.new.self.places.items
    × Runs (g.M.Service.serving c.args.connections.now.service) (g.M.Service.serving c.feed.new.self.service) (map answered_of more) in (
      bytes,
      c.in-Ok.ensures.bytes.0,
      subst Q (sym (number_held places c.args.place r.0 r.1)) (λ histories log s. c.feed.ensures.served r.0 r.1 histories log s),
    )

pub returns-in-Err-feed-clause-served : goal.returns-in-Err-feed-clause-served
returns-in-Err-feed-clause-served g c =
    let r = c.requires in
    let places = c.args.connections.now.places.items in
    let bytes : List ℕ = take c.in-Ok.count c.read.new.buf in
    let Q : ℕ → Type 0 = λ k. (histories : ℕ → History) (log : List Entry) → AreServed histories log c.args.connections.now.opened places
    → (more : List Exchange) × AreServed (receives histories k bytes) (log ++ entries k more) c.feed.new.self.opened c.feed.new.self.places.items
    × Runs (g.M.Service.serving c.args.connections.now.service) (g.M.Service.serving c.feed.new.self.service) (map answered_of more) in (
      bytes,
      c.in-Ok.ensures.bytes.0,
      subst Q (sym (number_held places c.args.place r.0 r.1)) (λ histories log s. c.feed.ensures.served r.0 r.1 histories log s),
    )

pub returns-then-is_empty-clause-served : goal.returns-then-is_empty-clause-served
returns-then-is_empty-clause-served g c = ([], Consumes-nil _, λ histories log s. receives_none _ histories log _ _ _ s)

pub returns-in-Ok-feed-clause-there : goal.returns-in-Ok-feed-clause-there
returns-in-Ok-feed-clause-there g c sound =
    let r = c.requires in
    let x = c.in-Ok-feed.ensures.there r.0 r.1 in
    still_held c.args.place c.args.connections.now.places.items c.feed.new.self.places.items r.0 r.1 (x.0, x.1, x.2)

pub returns-in-Err-feed-clause-there : goal.returns-in-Err-feed-clause-there
returns-in-Err-feed-clause-there g c sound = absurd (sound c.in-Err-feed.fault refl)
