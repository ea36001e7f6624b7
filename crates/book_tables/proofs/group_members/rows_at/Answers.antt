use Rattle.book_tables.proofs.Common.{sym, subst, state, IfOk-weaker}
use Rattle.std.proofs.Common.{IfOk}
use Rattle.book_tables_rows.specs.Lists.{ShowsRows}
use Rattle.book_tables_rows.proofs.Keeping.{query_keeps, looked}
use Rattle.book_tables.specs.Groups.{list_group, list_groups_of, pairs_at}
use Rattle.book_tables.proofs.GroupsTold.{list_group_plain, list_groups_of_plain, shows_group, shows_groups_of}
use Rattle.book_tables.proofs.group_members.rows_at.Goals as goal

pub returns-in-Down-clause-kept : goal.returns-in-Down-clause-kept
returns-in-Down-clause-kept g c clean inside =
    query_keeps (λ rows. rows.items) list_group _ (state g.S.Store c.args.transaction.now.conn.now) (state g.S.Store c.query_all.new.self.conn.now) c.query_all.result inside (c.query_all.ensures.ok clean) (c.query_all.ensures.err clean)

pub returns-in-Down-clause-stays : goal.returns-in-Down-clause-stays
returns-in-Down-clause-stays g c clean =
    let old = state g.S.Store c.args.transaction.now.conn.now in
    let new = state g.S.Store c.query_all.new.self.conn.now in
    IfOk-weaker c.query_all.result _ _ (λ rows h. looked list_group list_group_plain _ old new rows.items h) (c.query_all.ensures.ok clean)

pub returns-in-Down-clause-shown : goal.returns-in-Down-clause-shown
returns-in-Down-clause-shown g c clean =
    let old = state g.S.Store c.args.transaction.now.conn.now in
    let new = state g.S.Store c.query_all.new.self.conn.now in
    subst (λ w. IfOk c.query_all.result (λ rows. ShowsRows old (pairs_at w c.args.at.now) rows.items)) (sym c.in-Down.is)
    (IfOk-weaker c.query_all.result _ _ (λ rows h. shows_group old new c.args.at.now rows.items (rw (c.params-to_sql.ensures) at h)) (c.query_all.ensures.ok clean))

pub returns-in-Up-clause-kept : goal.returns-in-Up-clause-kept
returns-in-Up-clause-kept g c clean inside =
    query_keeps (λ rows. rows.items) list_groups_of _ (state g.S.Store c.args.transaction.now.conn.now) (state g.S.Store c.query_all-in-Up.new.self.conn.now) c.query_all-in-Up.result inside (c.query_all-in-Up.ensures.ok clean) (c.query_all-in-Up.ensures.err clean)

pub returns-in-Up-clause-stays : goal.returns-in-Up-clause-stays
returns-in-Up-clause-stays g c clean =
    let old = state g.S.Store c.args.transaction.now.conn.now in
    let new = state g.S.Store c.query_all-in-Up.new.self.conn.now in
    IfOk-weaker c.query_all-in-Up.result _ _ (λ rows h. looked list_groups_of list_groups_of_plain _ old new rows.items h) (c.query_all-in-Up.ensures.ok clean)

pub returns-in-Up-clause-shown : goal.returns-in-Up-clause-shown
returns-in-Up-clause-shown g c clean =
    let old = state g.S.Store c.args.transaction.now.conn.now in
    let new = state g.S.Store c.query_all-in-Up.new.self.conn.now in
    subst (λ w. IfOk c.query_all-in-Up.result (λ rows. ShowsRows old (pairs_at w c.args.at.now) rows.items)) (sym c.in-Up.is)
    (IfOk-weaker c.query_all-in-Up.result _ _ (λ rows h. shows_groups_of old new c.args.at.now rows.items (rw (c.params-to_sql-in-Up.ensures) at h)) (c.query_all-in-Up.ensures.ok clean))
