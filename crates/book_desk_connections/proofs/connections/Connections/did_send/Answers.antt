use Rattle.book_desk_connections.proofs.Common.{List, Option, Some, None, take, refl, sym, ap, ◌∙◌, subst, arith, Accepted, AreServed, Holds, is_sent}
use Rattle.std.proofs.Common.{drop, slice_set}
use Rattle.std.proofs.lemmas.List.{get_or-set_same, length-set}
use Rattle.book_wire.specs.Connection.{View}
use Rattle.book_desk_connections.proofs.Histories.{sends, sends_last, set_again, holds_read, holds_one}
use Rattle.book_desk_connections.proofs.connections.Connections.did_send.Goals as goal

pub returns-in-Ok-clause-sent : goal.returns-in-Ok-clause-sent
returns-in-Ok-clause-sent g c l at histories log s =
    let places = c.args.self.now.places.items in
    let opened = c.args.self.now.opened in
    let i = c.args.place in
    let n = c.args.count in
    let was = c.in-Some.kept in
    let now : Accepted = record { number = was.number; connection = c.shrink.new.self } in
    let here : Holds places i was = holds_read places i _ _ was at.0 c.index_mut.ensures.value c.replace.ensures.value c.in-Some.is in
    let shrunk = c.shrink.ensures in
    let x = sends histories log opened places i n was now s here refl
    (ap (λ (v : View). v.unsent) shrunk ∙ c.in-Ok.ensures.unsent) (ap (λ (v : View). v.unread) shrunk ∙ c.did_send.ensures.unread)
    (ap (λ (v : View). v.closing) shrunk ∙ c.did_send.ensures.closing) (ap (λ (v : View). v.stalled) shrunk ∙ c.did_send.ensures.stalled) in
    let P : Accepted → Type 0 = λ t. AreServed (is_sent histories t.number (take n t.connection.unsent)) log opened (slice_set places i (Some now)) in
    let Q : List (Option Accepted) → Type 0 = λ t. AreServed (is_sent histories l.number (take n l.connection.unsent)) log opened t in
    subst Q (sym (set_again places i c.replace.new.dest (Some now))) (subst P (holds_one places i was l here at) x)

pub returns-in-Err-clause-sent : goal.returns-in-Err-clause-sent
returns-in-Err-clause-sent g c l at histories log s =
    sends_last histories log c.args.self.now.opened c.args.self.now.places.items c.args.place c.args.count l _ s at c.replace.ensures.after

pub returns-in-Ok-clause-left : goal.returns-in-Ok-clause-left
returns-in-Ok-clause-left g c l at =
    let places = c.args.self.now.places.items in
    let i = c.args.place in
    let n = c.args.count in
    let was = c.in-Some.kept in
    let now : Accepted = record { number = was.number; connection = c.shrink.new.self } in
    let here : Holds places i was = holds_read places i _ _ was at.0 c.index_mut.ensures.value c.replace.ensures.value c.in-Some.is in
    let Q : List (Option Accepted) → Type 0 = λ t. Holds t i now in
    let put : Holds (slice_set places i (Some now)) i now =
    (omega (arith, at.0, length-set places i (Some now)), get_or-set_same places i (Some now) None at.0) in (
      now,
      subst Q (sym (set_again places i c.replace.new.dest (Some now))) put,
      ap (λ (a : Accepted). a.number) (holds_one places i was l here at),
      ap (λ (v : View). v.unsent) c.shrink.ensures ∙ c.in-Ok.ensures.unsent ∙ ap (λ (t : Accepted). drop n t.connection.unsent) (holds_one places i was l here at),
    )

pub returns-in-Err-clause-gone : goal.returns-in-Err-clause-gone
returns-in-Err-clause-gone g c =
    let places = c.args.self.now.places.items in
    let i = c.args.place in
    get_or-set_same places i c.replace.new.dest None c.requires.1.0 ∙ c.replace.ensures.after
