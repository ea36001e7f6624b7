use Rattle.book_tables.proofs.Common.{w64, to_z-of_z, IfOk-weaker, state}
use Rattle.book_tables_rows.proofs.Keeping.{query_keeps, looked}
use Rattle.book_tables.specs.Spans.{list_between}
use Rattle.book_tables.proofs.BareSpans.{list_between_plain, shows_between}
use Rattle.book_tables.proofs.spans.rows_between.Goals as goal

pub returns-clause-kept : goal.returns-clause-kept
returns-clause-kept g c clean inside =
    query_keeps (λ rows. rows.items) list_between _ (state g.S.Store c.args.transaction.now.conn.now) (state g.S.Store c.query_all.new.self.conn.now) c.query_all.result inside (c.query_all.ensures.ok clean) (c.query_all.ensures.err clean)

pub returns-clause-stays : goal.returns-clause-stays
returns-clause-stays g c clean =
    let old = state g.S.Store c.args.transaction.now.conn.now in
    let new = state g.S.Store c.query_all.new.self.conn.now in
    IfOk-weaker c.query_all.result _ _ (λ rows h. looked list_between list_between_plain _ old new rows.items h) (c.query_all.ensures.ok clean)

pub returns-clause-shown : goal.returns-clause-shown
returns-clause-shown g c clean =
    let old = state g.S.Store c.args.transaction.now.conn.now in
    let new = state g.S.Store c.query_all.new.self.conn.now in
    let first = to_z-of_z w64 c.args.first c.ranges.first in
    let last = to_z-of_z w64 c.args.last c.ranges.last in
    IfOk-weaker c.query_all.result _ _ (λ rows h. shows_between old new c.args.first c.args.last rows.items (rw (c.params-to_sql.ensures, c.params-to_sql-2.ensures, c.params-to_sql-3.ensures, first, last) at h)) (c.query_all.ensures.ok clean)
