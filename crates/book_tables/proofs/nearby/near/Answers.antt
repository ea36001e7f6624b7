use Rattle.std.proofs.Common.{◌++◌, ◌∷◌, [], List, ℕ, Option, None, IfSome, refl, subst, Vec, Global}
use Rattle.book_tables.specs.Inside.{Inside}
use Rattle.book_office_values.specs.declared.offices.Office.{Office}
use Rattle.book_lists.specs.Circles.{has_path}
use Rattle.book_lists.specs.declared.principals.Principal.{Principal}
use Rattle.book_office.specs.Edits.{members_set}
use Rattle.book_tables.specs.Nearby.{HasNearby, IsBelow}
use Rattle.book_tables.specs.Searching.{HasSearched}
use Rattle.book_tables.specs.declared.searching.Search.{Search}
use Rattle.book_tables.specs.declared.searching.Way.TheVariants.{Up}
use Rattle.book_tables.proofs.NearbyPairs.{nearby_found, some_as}
use Rattle.book_tables.proofs.Readings.{then_answers, then_tells}
use Rattle.book_tables.proofs.nearby.near.Goals as goal

abbrev Below : List (List ℕ) → List ℕ → Office → Option (Vec Principal Global) → Type 0
Below members group o below = IfSome below (λ b. IsBelow o.pairs (members_set o.pairs group members) (has_path b.items))

abbrev Near : List (List ℕ) → List ℕ → Office → Option Search → Type 0
Near members group o near = IfSome near (HasNearby o.pairs group members)

pub returns-in-Some : goal.returns-in-Some
returns-in-Some g c =
    let S0 : Inside = g.D.Directs.inside c.args.directs.now in
    let S1 : Inside = g.D.Directs.inside c.below.new.directs in
    let S2 : Inside = g.D.Directs.inside c.search_up.new.directs in
    let group = c.args.group.now in
    let members = c.args.members.now in
    let below = c.in-Some.below.items in
    let starts : List (List ℕ) = below ++ group ∷ [] in
    then_answers S0 S1 c.in_ok-found.found (Below members group) c.in_ok-found.ensures S2 c.search_up.result (λ (o : Office) (found : Option Search). IfSome found (HasSearched o.pairs Up starts)) (Near members group) c.search_up.ensures
    (λ o y is_below found. some_as (λ s has. nearby_found o.pairs group members below starts s (subst (Below members group o) c.in-Some.is is_below) refl has) y found)

pub returns-in-None : goal.returns-in-None
returns-in-None g c =
    then_tells (g.D.Directs.inside c.args.directs.now) (g.D.Directs.inside c.below.new.directs) c.in_ok-found.found (Below c.args.members.now c.args.group.now) c.in_ok-found.ensures
    None (Near c.args.members.now c.args.group.now) (λ o below. tt)
