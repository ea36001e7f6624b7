use Rattle.book_tables.proofs.Common.{◌≡◌, true, rules, ap, IsTrue, state, State}
use Rattle.book_tables.proofs.Alone.{edit_undone, edit_committed, edit_uncommitted}
use Rattle.book_tables.proofs.keeping.TablesKeeper.act.Goals as goal

pub returns-in_err-act : goal.returns-in_err-act
returns-in_err-act g c =
    let old : State = state g.S.Store c.args.self.now.connection in
    let begun : State = state g.S.Store c.transaction-transaction.result.conn.now in
    let mid : State = state g.S.Store c.act.new.transaction.conn.now in
    let last = c.drop-transaction.new.self.0 in
    let is : begun ≡ record old { in_transaction = true } = ap (state g.S.Store) c.transaction-transaction.ensures.begun in
    let auto : IsTrue c.is_autocommit.result = search rules in
    edit_undone old begun mid (state g.S.Store last) is (c.is_autocommit.ensures.settled auto) c.drop-transaction.ensures.undone c.drop-transaction.ensures.survives
    c.args.edit.now c.args.self.now.failures c.act.new.failures c.in_err-act.field-0.0 c.from_residual.result c.from_residual.ensures.1 c.in_err-act.ensures.edits

pub returns-in-Ok : goal.returns-in-Ok
returns-in-Ok g c =
    let old : State = state g.S.Store c.args.self.now.connection in
    let begun : State = state g.S.Store c.transaction-transaction.result.conn.now in
    let mid : State = state g.S.Store c.act.new.transaction.conn.now in
    let last = c.commit.new.self.0 in
    let is : begun ≡ record old { in_transaction = true } = ap (state g.S.Store) c.transaction-transaction.ensures.begun in
    let auto : IsTrue c.is_autocommit.result = search rules in
    edit_committed old begun mid (state g.S.Store last) is (c.is_autocommit.ensures.settled auto) c.args.edit.now c.args.self.now.failures c.act.new.failures c.in_ok-act.ensures.edits c.commit.ensures.survives
    (g.met.S.Store.settled last.store) (λ h. (c.in-Ok.ensures.ok h).1)

pub returns-in-Err : goal.returns-in-Err
returns-in-Err g c =
    let old : State = state g.S.Store c.args.self.now.connection in
    let begun : State = state g.S.Store c.transaction-transaction.result.conn.now in
    let mid : State = state g.S.Store c.act.new.transaction.conn.now in
    let last = c.commit.new.self.0 in
    let is : begun ≡ record old { in_transaction = true } = ap (state g.S.Store) c.transaction-transaction.ensures.begun in
    let auto : IsTrue c.is_autocommit.result = search rules in
    edit_uncommitted old begun mid (state g.S.Store last) is (c.is_autocommit.ensures.settled auto) c.args.edit.now c.args.self.now.failures c.act.new.failures c.in_ok-act.ensures.edits c.commit.ensures.survives
    c.in-Err.error c.fault_of.result c.fault_of.new.failures c.fault_of.ensures c.in-Err.ensures.err
