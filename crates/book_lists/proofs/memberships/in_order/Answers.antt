use Rattle.book_lists.proofs.Common.{◌≡◌, ℕ, Ok, length, arith, membership_cmp}
use Rattle.std.specs.BTreeSet.{IsFromIterResult}
use Rattle.std.proofs.lemmas.Iterator.{items_from_collect}
use Rattle.std.proofs.lemmas.Iterator.Adapters.{fact_from_collect, YieldsList-from_vec}
use Rattle.std.proofs.lemmas.Iterator.Consumers.{YieldsList-from_rest}
use Rattle.book_lists.proofs.Pairing.{collected_in}
use Rattle.book_lists.proofs.memberships.in_order.Goals as goal

pub returns-clause-pairs : goal.returns-clause-pairs
returns-clause-pairs c =
    let pairs = c.in_ok-pairs.pairs in
    let list = c.args.list.items in
    let all : c.into_iter.result.rest.len ≡ length list = omega (arith, c.into_iter.ensures.len, c.args.list.ok.0) in
    let whole = fact_from_collect {E = ℕ} (IsFromIterResult membership_cmp) (Ok pairs) c.in_ok-pairs.ensures.ran (YieldsList-from_vec list c.into_iter.ensures.rest all) in
    let read : c.into_iter-2.result ≡ pairs.keys = c.into_iter-2.ensures.into_iter_gives.0 in
    collected_in c.collect-2.result list pairs.keys whole.0
    (items_from_collect c.collect-2.result c.collect-2.ensures.ran (YieldsList-from_rest pairs.keys read))
