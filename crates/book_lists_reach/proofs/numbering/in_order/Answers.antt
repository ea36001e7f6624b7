use Rattle.std.proofs.Common.{◌≡◌, ℕ, Ok, length, arith}
use Rattle.std.specs.BTreeSet.{IsFromIterResult}
use Rattle.std.proofs.lemmas.Iterator.{items_from_collect}
use Rattle.std.proofs.lemmas.Iterator.Adapters.{fact_from_collect, YieldsList-from_vec}
use Rattle.std.proofs.lemmas.Iterator.Consumers.{YieldsList-from_rest}
use Rattle.book_lists.specs.Principals.{path_cmp}
use Rattle.book_lists_reach.proofs.Places.{ordered_in}
use Rattle.book_lists_reach.proofs.numbering.in_order.Goals as goal

pub returns-clause-same : goal.returns-clause-same
returns-clause-same c =
    let principals = c.in_ok-principals.principals in
    let list = c.args.list.items in
    let all : c.into_iter.result.rest.len ≡ length list = omega (arith, c.into_iter.ensures.len, c.args.list.ok.0) in
    let whole = fact_from_collect {E = ℕ} (IsFromIterResult path_cmp) (Ok principals) c.in_ok-principals.ensures.ran (YieldsList-from_vec list c.into_iter.ensures.rest all) in
    let read : c.into_iter-2.result ≡ principals.keys = c.into_iter-2.ensures.into_iter_gives.0 in
    ordered_in c.collect-2.result list principals.keys whole.0
    (items_from_collect c.collect-2.result c.collect-2.ensures.ran (YieldsList-from_rest principals.keys read))
