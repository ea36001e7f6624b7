use Rattle.book_tables_opening.proofs.Common.{state}
use mir.Syntax.{w64}
use Rattle.book_tables_rows.proofs.Keeping.{query_keeps, looked}
use Rattle.book_tables_opening.specs.WholeNodes.{read_text}
use Rattle.book_tables_opening.proofs.WholeReads.{shows_text, read_text_plain}
use Rattle.book_tables_opening.proofs.whole_nodes.text_rows.Goals as goal
use Rattle.std.proofs.lemmas.Int.{to_z-of_z}
use Rattle.std.proofs.lemmas.Result.{IfOk-weaker}

pub returns-clause-kept : goal.returns-clause-kept
returns-clause-kept g c clean inside =
    query_keeps (λ rows. rows.items) read_text _ (state g.S.Store c.args.transaction.now.conn.now) (state g.S.Store c.query_all.new.self.conn.now) c.query_all.result inside (c.query_all.ensures.ok clean) (c.query_all.ensures.err clean)

pub returns-clause-stays : goal.returns-clause-stays
returns-clause-stays g c clean =
    let old = state g.S.Store c.args.transaction.now.conn.now in
    let new = state g.S.Store c.query_all.new.self.conn.now in
    IfOk-weaker c.query_all.result _ _ (λ rows h. looked read_text read_text_plain _ old new rows.items h) (c.query_all.ensures.ok clean)

pub returns-clause-shown : goal.returns-clause-shown
returns-clause-shown g c clean =
    let old = state g.S.Store c.args.transaction.now.conn.now in
    let new = state g.S.Store c.query_all.new.self.conn.now in
    let number = to_z-of_z w64 c.args.id c.ranges.id in
    IfOk-weaker c.query_all.result _ _ (λ rows h. shows_text old new c.args.id rows.items (rw (c.params-to_sql.ensures, number) at h)) (c.query_all.ensures.ok clean)
