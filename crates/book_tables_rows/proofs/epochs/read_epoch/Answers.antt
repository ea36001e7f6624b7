use Rattle.book_tables_rows.proofs.Common.{◌≡◌, rules, sym, subst, IfOk-weaker, state, ShowsEpoch}
use Rattle.book_tables_rows.proofs.epochs.read_epoch.Goals as goal

pub returns-clause-found : goal.returns-clause-found
returns-clause-found g c clean =
    let old = state g.S.Store c.args.transaction.now.conn.now in
    let items : c.deref.result.now ≡ c.in_ok-rows.rows.items = search rules in
    IfOk-weaker c.first_epoch.result _ _ (λ epoch is. subst (ShowsEpoch old) (sym is) (c.in_ok-rows.ensures.shown clean)) (rw items at c.first_epoch.ensures)
