use Rattle.std.proofs.Common.{◌++◌, ◌∷◌, [], List, ℕ, Option, IfSome, subst}
use Rattle.book_tables.specs.Inside.{Inside, ReadsInside}
use Rattle.book_office.specs.declared.keepers.StoreFault.TheVariants.{Memory}
use Rattle.book_office_values.specs.declared.offices.Office.{Office}
use Rattle.book_tables.specs.Searching.{HasSearched}
use Rattle.book_tables.specs.declared.searching.Search.{Search}
use Rattle.book_tables.specs.declared.searching.Way.TheVariants.{Up}
use Rattle.book_tables.proofs.Readings.{passed_on, reads_refused}
use Rattle.book_tables.proofs.nearby.search_up.Goals as goal

abbrev Found : List (List ℕ) → Office → Option Search → Type 0
Found starts o found = IfSome found (HasSearched o.pairs Up starts)

pub returns-in_err-starts : goal.returns-in_err-starts
returns-in_err-starts g c =
    let S0 : Inside = g.D.Directs.inside c.args.directs.now in
    let V = Found (c.args.below.items ++ c.args.group.now ∷ []) in
    passed_on S0 S0 Memory c.from_residual.result V V c.from_residual.ensures.1 (reads_refused S0 V)

pub returns : goal.returns
returns g c =
    let S0 : Inside = g.D.Directs.inside c.args.directs.now in
    let S1 : Inside = g.D.Directs.inside c.search.new.directs in
    subst (λ ps. ReadsInside S0 S1 c.search.result (Found ps)) c.in_ok-starts.ensures c.search.ensures
