use Rattle.book_tables_rows.proofs.Common.{w64, to_z-of_z, IfOk-weaker, state}
use Rattle.book_tables_rows.specs.Texts.{list_children}
use Rattle.book_tables_rows.proofs.Keeping.{query_keeps, looked}
use Rattle.book_tables_rows.proofs.Meanings.{list_children_plain}
use Rattle.book_tables_rows.proofs.Reading.{shows_children}
use Rattle.book_tables_rows.proofs.lists.child_rows.Goals as goal

pub returns-clause-kept : goal.returns-clause-kept
returns-clause-kept g c clean inside =
    query_keeps (λ rows. rows.items) list_children _ (state g.S.Store c.args.transaction.now.conn.now) (state g.S.Store c.query_all.new.self.conn.now) c.query_all.result inside (c.query_all.ensures.ok clean) (c.query_all.ensures.err clean)

pub returns-clause-stays : goal.returns-clause-stays
returns-clause-stays g c clean =
    let old = state g.S.Store c.args.transaction.now.conn.now in
    let new = state g.S.Store c.query_all.new.self.conn.now in
    IfOk-weaker c.query_all.result _ _ (λ rows h. looked list_children list_children_plain _ old new rows.items h) (c.query_all.ensures.ok clean)

pub returns-clause-shown : goal.returns-clause-shown
returns-clause-shown g c clean =
    let old = state g.S.Store c.args.transaction.now.conn.now in
    let new = state g.S.Store c.query_all.new.self.conn.now in
    let node = to_z-of_z w64 c.args.node c.ranges.node in
    IfOk-weaker c.query_all.result _ _ (λ rows h. shows_children old new c.args.node rows.items (rw (c.params-to_sql.ensures, node) at h)) (c.query_all.ensures.ok clean)
