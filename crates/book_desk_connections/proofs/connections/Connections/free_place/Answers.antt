use Rattle.book_desk_connections.proofs.Common.{◌≡◌, List, Option, sym, subst, length, arith, Accepted, AreServed}
use Rattle.book_desk_connections.proofs.Histories.{makes_room}
use Rattle.book_desk_connections.proofs.Places.{all_pushed, pushed_free}
use Rattle.book_desk_connections.proofs.connections.Connections.free_place.Goals as goal

pub returns-clause-served : goal.returns-clause-served
returns-clause-served g c histories log s =
    let P : List (Option Accepted) → Type 0 = λ t. AreServed histories log c.args.self.now.opened t in
    subst P (sym c.in_ok-push.ensures.items) (makes_room histories log c.args.self.now.opened c.args.self.now.places.items s)

pub returns-clause-free : goal.returns-clause-free
returns-clause-free g c =
    let places = c.args.self.now.places.items in
    let at : c.len-count.result ≡ length places = omega (arith, c.len-count.ensures) in
    pushed_free places _ c.len-count.result at c.in_ok-push.ensures.items

pub returns-clause-all : goal.returns-clause-all
returns-clause-all g c = all_pushed c.args.self.now.places.items _ c.in_ok-push.ensures.items
