use Rattle.book_tables.proofs.Common.{◌≡◌, rules, IfOk-weaker, state, Memberships}
use Rattle.std.proofs.Common.{IfOk}
use Rattle.book_tables.proofs.PairsTold.{AreTold, pairs_shown}
use Rattle.book_tables.proofs.members.shown_pairs.Goals as goal

pub returns-clause-found : goal.returns-clause-found
returns-clause-found g c clean =
    let old = state g.S.Store c.args.transaction.now.conn.now in
    let rows = c.in_ok-rows.rows.items in
    let same : c.deref.result.now ≡ rows = search rules in
    let told : IfOk c.pairs_of.result (λ (pairs : Memberships). AreTold pairs rows) = rw same at c.pairs_of.ensures in
    IfOk-weaker c.pairs_of.result _ _ (λ pairs are. pairs_shown old rows pairs (c.in_ok-rows.ensures.shown clean) are) told
