use Rattle.book_desk_connections.proofs.Common.{ℕ, List, [], ◌++◌, map, sym, subst, AreServed, entries, receives}
use Rattle.std.proofs.Common.{refl}
use Rattle.book_wire_serving.specs.Serving.{Runs}
use Rattle.book_wire.specs.Stream.{Exchange, answered_of}
use Rattle.book_desk_connections.proofs.Histories.{number_held}
use Rattle.book_desk_connections.proofs.Streams.{still_held}
use Rattle.book_desk_connections.proofs.moves.answer_more.Goals as goal

pub returns-in-Ok-clause-served : goal.returns-in-Ok-clause-served
returns-in-Ok-clause-served g c histories log s =
    let r = c.requires in
    let places = c.args.connections.now.places.items in
    let Q : ℕ → Type 0 = λ k. (more : List Exchange)
    × AreServed (receives histories k []) (log ++ entries k more) c.feed.new.self.opened c.feed.new.self.places.items
    × Runs (g.M.Service.serving c.args.connections.now.service) (g.M.Service.serving c.feed.new.self.service) (map answered_of more) in
    subst Q (sym (number_held places c.args.place r.0 r.1)) (c.feed.ensures.served r.0 r.1 histories log s)

pub returns-in-Err-clause-served : goal.returns-in-Err-clause-served
returns-in-Err-clause-served g c histories log s =
    let r = c.requires in
    let places = c.args.connections.now.places.items in
    let Q : ℕ → Type 0 = λ k. (more : List Exchange)
    × AreServed (receives histories k []) (log ++ entries k more) c.feed.new.self.opened c.feed.new.self.places.items
    × Runs (g.M.Service.serving c.args.connections.now.service) (g.M.Service.serving c.feed.new.self.service) (map answered_of more) in
    subst Q (sym (number_held places c.args.place r.0 r.1)) (c.feed.ensures.served r.0 r.1 histories log s)

pub returns-in-Ok-clause-there : goal.returns-in-Ok-clause-there
returns-in-Ok-clause-there g c sound =
    let r = c.requires in
    still_held c.args.place c.args.connections.now.places.items c.feed.new.self.places.items r.0 r.1
    (let x = c.in-Ok.ensures.there r.0 r.1 in (x.0, x.1, x.2))

pub returns-in-Err-clause-there : goal.returns-in-Err-clause-there
returns-in-Err-clause-there g c sound = absurd (sound c.in-Err.fault refl)
