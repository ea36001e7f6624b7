use Rattle.book_tables.proofs.Common.{◌≡◌, true, rules, ap, IsTrue, state, State}
use Rattle.book_tables.proofs.Alone.{read_alone}
use Rattle.book_tables.proofs.keeping.TablesKeeper.circle.Goals as goal

pub returns : goal.returns
returns g c =
    let old : State = state g.S.Store c.args.self.now.connection in
    let begun : State = state g.S.Store c.transaction-transaction.result.conn.now in
    let mid : State = state g.S.Store c.circle.new.transaction.conn.now in
    let last = c.drop-transaction.new.self.0 in
    let is : begun ≡ record old { in_transaction = true } = ap (state g.S.Store) c.transaction-transaction.ensures.begun in
    let auto : IsTrue c.is_autocommit.result = search rules in
    read_alone old begun mid (state g.S.Store last) is (c.is_autocommit.ensures.settled auto) c.drop-transaction.ensures.undone c.drop-transaction.ensures.survives
    c.args.self.now.failures c.circle.new.failures c.circle.result _ c.circle.ensures.reads
