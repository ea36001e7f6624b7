use Rattle.book_tables_rows.proofs.Common.{state, IfOk-weaker}
use Rattle.book_tables_rows.specs.Texts.{find_node}
use Rattle.book_tables_rows.proofs.Keeping.{query_keeps}
use Rattle.book_tables_rows.proofs.Finding.{shows_node, looks_up}
use Rattle.book_tables_rows.proofs.nodes.node_rows.Goals as goal

pub returns-clause-kept : goal.returns-clause-kept
returns-clause-kept g c clean inside =
    query_keeps (λ rows. rows.items) find_node _ (state g.S.Store c.args.transaction.now.conn.now) (state g.S.Store c.query_all.new.self.conn.now) c.query_all.result inside (c.query_all.ensures.ok clean) (c.query_all.ensures.err clean)

pub returns-clause-stays : goal.returns-clause-stays
returns-clause-stays g c clean =
    let old = state g.S.Store c.args.transaction.now.conn.now in
    let new = state g.S.Store c.query_all.new.self.conn.now in
    IfOk-weaker c.query_all.result _ _ (λ rows h. looks_up old new c.args.path.now rows.items (rw c.params-to_sql.ensures at h)) (c.query_all.ensures.ok clean)

pub returns-clause-shown : goal.returns-clause-shown
returns-clause-shown g c clean =
    let old = state g.S.Store c.args.transaction.now.conn.now in
    let new = state g.S.Store c.query_all.new.self.conn.now in
    IfOk-weaker c.query_all.result _ _ (λ rows h. shows_node old new c.args.path.now rows.items (rw c.params-to_sql.ensures at h)) (c.query_all.ensures.ok clean)
