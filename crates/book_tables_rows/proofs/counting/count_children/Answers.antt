use Rattle.book_tables_rows.proofs.Common.{◌≡◌, rules, sym, subst, IfOk-weaker, state}
use Rattle.book_tables_rows.specs.Lists.{ShowsCount}
use Rattle.book_tables_rows.proofs.counting.count_children.Goals as goal

pub returns-clause-found : goal.returns-clause-found
returns-clause-found g c clean =
    let old = state g.S.Store c.args.transaction.now.conn.now in
    let items : c.deref.result.now ≡ c.in_ok-rows.rows.items = search rules in
    IfOk-weaker c.first_count.result _ _ (λ count is. subst (ShowsCount old c.args.path.now) (sym is) (c.in_ok-rows.ensures.shown clean)) (rw items at c.first_count.ensures)
