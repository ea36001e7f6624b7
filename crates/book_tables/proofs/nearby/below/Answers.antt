use Rattle.std.proofs.Common.{List, ℕ, Option, None, Some, IfSome, Err, sym, subst, Vec, Global}
use Rattle.book_tables.specs.Inside.{Inside, ReadsInside}
use Rattle.book_office_values.specs.declared.offices.Office.{Office}
use Rattle.book_lists.specs.Circles.{has_path}
use Rattle.book_lists.specs.declared.principals.Principal.{Principal}
use Rattle.book_office.specs.Edits.{members_set}
use Rattle.book_tables.specs.Nearby.{AreChanged, IsBelow}
use Rattle.book_tables.specs.Searching.{HasSearched}
use Rattle.book_tables.specs.declared.searching.Search.{Search}
use Rattle.book_tables.specs.declared.searching.Way.TheVariants.{Down}
use Rattle.book_tables.proofs.NearbyPairs.{below_found}
use Rattle.book_tables.proofs.Readings.{then_tells, then_reads, then_fails, passed_on}
use Rattle.book_tables.proofs.nearby.below.Goals as goal

abbrev Starts : List (List ℕ) → List ℕ → Office → Vec Principal Global → Type 0
Starts members group o starts = AreChanged o.pairs (members_set o.pairs group members) (has_path starts.items)

abbrev Below : List (List ℕ) → List ℕ → Office → Option (Vec Principal Global) → Type 0
Below members group o below = IfSome below (λ b. IsBelow o.pairs (members_set o.pairs group members) (has_path b.items))

abbrev Found : List (List ℕ) → Office → Option Search → Type 0
Found starts o found = IfSome found (HasSearched o.pairs Down starts)

pub returns-in_err-found : goal.returns-in_err-found
returns-in_err-found g c =
    let S0 : Inside = g.D.Directs.inside c.args.directs.now in
    let S1 : Inside = g.D.Directs.inside c.starts.new.directs in
    let S2 : Inside = g.D.Directs.inside c.search.new.directs in
    let V = Below c.args.members.now c.args.group.now in
    let fault = c.in_err-found.field-0.0 in
    let fails : ReadsInside {A = Option (Vec Principal Global)} S0 S2 (Err fault) V = then_fails S0 S1 c.in_ok-starts.starts (Starts c.args.members.now c.args.group.now) c.in_ok-starts.ensures S2 fault (Found c.in_ok-starts.starts.items) V c.in_err-found.ensures in
    passed_on S0 S2 fault c.from_residual-in_err-found.result V V c.from_residual-in_err-found.ensures.1 fails

pub returns-in-Some : goal.returns-in-Some
returns-in-Some g c =
    let S0 : Inside = g.D.Directs.inside c.args.directs.now in
    let S1 : Inside = g.D.Directs.inside c.starts.new.directs in
    let S2 : Inside = g.D.Directs.inside c.search.new.directs in
    let group = c.args.group.now in
    let members = c.args.members.now in
    let starts = c.in_ok-starts.starts in
    then_tells S0 S2 (starts, c.in_ok-found.found) (λ o both. Starts members group o both.0 × Found starts.items o both.1)
    (then_reads S0 S1 starts (Starts members group) c.in_ok-starts.ensures S2 c.in_ok-found.found (Found starts.items) c.in_ok-found.ensures)
    (Some c.into_all.result) (Below members group)
    (λ o both. subst (λ (ps : Vec Principal Global). IsBelow o.pairs (members_set o.pairs group members) (has_path ps.items)) (sym c.into_all.ensures)
    (below_found o.pairs (members_set o.pairs group members) starts.items c.in-Some.search both.0 (subst (Found starts.items o) c.in-Some.is both.1)))

pub returns-in-None : goal.returns-in-None
returns-in-None g c =
    let S0 : Inside = g.D.Directs.inside c.args.directs.now in
    let S1 : Inside = g.D.Directs.inside c.starts.new.directs in
    let S2 : Inside = g.D.Directs.inside c.search.new.directs in
    let group = c.args.group.now in
    let members = c.args.members.now in
    let starts = c.in_ok-starts.starts in
    then_tells S0 S2 (starts, c.in_ok-found.found) (λ o both. Starts members group o both.0 × Found starts.items o both.1)
    (then_reads S0 S1 starts (Starts members group) c.in_ok-starts.ensures S2 c.in_ok-found.found (Found starts.items) c.in_ok-found.ensures)
    None (Below members group) (λ o both. tt)
