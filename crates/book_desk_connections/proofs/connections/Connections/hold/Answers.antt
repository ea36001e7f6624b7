use Rattle.book_desk_connections.proofs.Common.{List, Option, Some, None, refl, sym, ap, subst, ◌∙◌, arith, Accepted, AreServed, Holds, receives}
use Rattle.std.proofs.Common.{slice_set}
use Rattle.std.proofs.lemmas.List.{get_or-set_same, length-set}
use Rattle.book_desk_connections.proofs.Histories.{holds_more, holds_none, holds_one, holds_read, same_closing, set_again}
use Rattle.book_desk_connections.proofs.connections.Connections.hold.Goals as goal

pub returns-in-Ok-clause-served : goal.returns-in-Ok-clause-served
returns-in-Ok-clause-served g c l at histories log s =
    let places = c.args.self.now.places.items in
    let opened = c.args.self.now.opened in
    let i = c.args.place in
    let bytes = c.args.bytes.now in
    let r = c.requires in
    let was = c.in-Some.accepted in
    let now : Accepted = record { number = was.number; connection = c.hold.new.self } in
    let holds : Holds places i was = holds_read places i _ _ was at.0 c.index_mut.ensures.value c.replace.ensures.value c.in-Some.is in
    let x = holds_more histories log opened places i was now bytes s holds (same_closing places i r.0 was r.1 holds r.2) refl c.in-Ok.ensures.unread c.hold.ensures.unsent c.hold.ensures.closing c.in-Ok.ensures.stalled in
    let P : Accepted → Type 0 = λ t. AreServed (receives histories t.number bytes) log opened (slice_set places i (Some now)) in
    let Q : List (Option Accepted) → Type 0 = λ t. AreServed (receives histories l.number bytes) log opened t in
    subst Q (sym (set_again places i c.replace.new.dest (Some now))) (subst P (holds_one places i was l holds at) x)

pub returns-in-Err-clause-served : goal.returns-in-Err-clause-served
returns-in-Err-clause-served g c l at histories log s =
    let places = c.args.self.now.places.items in
    let i = c.args.place in
    let bytes = c.args.bytes.now in
    let r = c.requires in
    let Q : Option Accepted → Type 0 = λ t. AreServed (receives histories l.number bytes) log c.args.self.now.opened (slice_set places i t) in
    subst Q (sym c.replace.ensures.after)
    (holds_none (g.M.Service.serving c.args.self.now.service) histories log c.args.self.now.opened places i l bytes s at (same_closing places i r.0 l r.1 at r.2))

pub returns-in-Ok-clause-there : goal.returns-in-Ok-clause-there
returns-in-Ok-clause-there g c l at =
    let places = c.args.self.now.places.items in
    let i = c.args.place in
    let was = c.in-Some.accepted in
    let now : Accepted = record { number = was.number; connection = c.hold.new.self } in
    let holds : Holds places i was = holds_read places i _ _ was at.0 c.index_mut.ensures.value c.replace.ensures.value c.in-Some.is in
    let Q : List (Option Accepted) → Type 0 = λ t. Holds t i now in
    let put : Holds (slice_set places i (Some now)) i now =
    (omega (arith, at.0, length-set places i (Some now)), get_or-set_same places i (Some now) None at.0) in
    (now, subst Q (sym (set_again places i c.replace.new.dest (Some now))) put, ap (λ (a : Accepted). a.number) (holds_one places i was l holds at))

pub returns-in-Err-clause-gone : goal.returns-in-Err-clause-gone
returns-in-Err-clause-gone g c =
    let places = c.args.self.now.places.items in
    let i = c.args.place in
    get_or-set_same places i c.replace.new.dest None c.requires.1.0 ∙ c.replace.ensures.after
