use Rattle.book_desk_connections.proofs.Common.{ap, ◌∙◌, Some, None, refl, sym, subst, arith, ℕ, Accepted, AreServed}
use Rattle.std.proofs.Common.{◌+◌, slice_set}
use Rattle.std.proofs.lemmas.List.{get_or-set_same, length-set}
use Rattle.book_desk_connections.proofs.Histories.{opens}
use Rattle.book_desk_connections.proofs.Places.{others_placed}
use Rattle.book_desk_connections.proofs.connections.Connections.open.Goals as goal

pub returns-clause-place : goal.returns-clause-place
returns-clause-place g c =
    let places = c.free_place.new.self.places.items in
    let i = c.in_ok-place.place in
    let w : Accepted = record { number = c.free_place.new.self.opened; connection = c.new.result } in
    let within = c.in_ok-place.ensures.place in
    (w, (omega (arith, within, length-set places i (Some w)), get_or-set_same places i (Some w) None within), c.free_place.ensures.count, c.new.ensures)

pub returns-clause-served : goal.returns-clause-served
returns-clause-served g c histories log s =
    let places = c.free_place.new.self.places.items in
    let i = c.in_ok-place.place in
    let w : Accepted = record { number = c.free_place.new.self.opened; connection = c.new.result } in
    let x = opens histories log c.free_place.new.self.opened places i w (c.free_place.ensures.served histories log s) c.in_ok-place.ensures.place refl c.new.ensures in
    let P : ℕ → Type 0 = λ n. AreServed histories log n (slice_set places i (Some w)) in
    subst P (sym c.in-Some.ensures.1) x

pub returns-clause-free : goal.returns-clause-free
returns-clause-free g c = sym (c.free_place.ensures.all.stay c.in_ok-place.place) ∙ c.in_ok-place.ensures.free

pub returns-clause-others : goal.returns-clause-others
returns-clause-others g c =
    let w : Accepted = record { number = c.free_place.new.self.opened; connection = c.new.result } in
    others_placed c.in_ok-place.place _ c.free_place.new.self.places.items (Some w) c.free_place.ensures.all

pub returns-clause-opened : goal.returns-clause-opened
returns-clause-opened g c = c.in-Some.ensures.1 ∙ ap (λ (n : ℕ). n + 1) c.free_place.ensures.count
