use Rattle.book_tables_opening.proofs.Common.{state}
use Rattle.book_tables_rows.proofs.Keeping.{query_keeps, looked}
use Rattle.book_tables_opening.specs.WholeNodes.{list_textless_nodes}
use Rattle.book_tables_opening.proofs.WholeReads.{shows_textless_nodes, list_textless_nodes_plain}
use Rattle.book_tables_opening.proofs.whole_nodes.textless_node_rows.Goals as goal
use Rattle.std.proofs.lemmas.Result.{IfOk-weaker}

pub returns-clause-kept : goal.returns-clause-kept
returns-clause-kept g c clean inside =
    query_keeps (λ rows. rows.items) list_textless_nodes _ (state g.S.Store c.args.transaction.now.conn.now) (state g.S.Store c.query_all.new.self.conn.now) c.query_all.result inside (c.query_all.ensures.ok clean) (c.query_all.ensures.err clean)

pub returns-clause-stays : goal.returns-clause-stays
returns-clause-stays g c clean =
    let old = state g.S.Store c.args.transaction.now.conn.now in
    let new = state g.S.Store c.query_all.new.self.conn.now in
    IfOk-weaker c.query_all.result _ _ (λ rows h. looked list_textless_nodes list_textless_nodes_plain _ old new rows.items h) (c.query_all.ensures.ok clean)

pub returns-clause-shown : goal.returns-clause-shown
returns-clause-shown g c clean =
    let old = state g.S.Store c.args.transaction.now.conn.now in
    let new = state g.S.Store c.query_all.new.self.conn.now in
    IfOk-weaker c.query_all.result _ _ (λ rows h. shows_textless_nodes old new rows.items h) (c.query_all.ensures.ok clean)
