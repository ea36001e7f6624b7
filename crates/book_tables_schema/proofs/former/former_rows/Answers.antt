use Rattle.book_tables_schema.proofs.Common.{state, query_keeps, looked, IfOk-weaker}
use Rattle.book_tables_schema.specs.Whole.{list_former}
use Rattle.book_tables_schema.proofs.WholeTables.{list_former_plain}
use Rattle.book_tables_schema.proofs.former.former_rows.Goals as goal

pub returns-clause-kept : goal.returns-clause-kept
returns-clause-kept g c clean inside =
    query_keeps (λ rows. rows.items) list_former _ (state g.S.Store c.args.transaction.now.conn.now) (state g.S.Store c.query_all.new.self.conn.now) c.query_all.result inside (c.query_all.ensures.ok clean) (c.query_all.ensures.err clean)

pub returns-clause-stays : goal.returns-clause-stays
returns-clause-stays g c clean =
    let old = state g.S.Store c.args.transaction.now.conn.now in
    let new = state g.S.Store c.query_all.new.self.conn.now in
    IfOk-weaker c.query_all.result _ _ (λ rows h. looked list_former list_former_plain _ old new rows.items h) (c.query_all.ensures.ok clean)
