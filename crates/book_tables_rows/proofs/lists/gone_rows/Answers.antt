use Rattle.book_tables_rows.proofs.Common.{rules, w64, arith, to_z_pos, to_z-of_z, IfOk-weaker, state}
use Rattle.std.proofs.Common.{FitsSigned}
use Rattle.book_tables_rows.specs.Texts.{list_gone}
use Rattle.book_tables_rows.proofs.Keeping.{query_keeps, looked}
use Rattle.book_tables_rows.proofs.Meanings.{list_gone_plain}
use Rattle.book_tables_rows.proofs.Reading.{shows_gone}
use Rattle.book_tables_rows.proofs.lists.gone_rows.Goals as goal

pub returns-clause-kept : goal.returns-clause-kept
returns-clause-kept g c clean inside =
    query_keeps (λ rows. rows.items) list_gone _ (state g.S.Store c.args.transaction.now.conn.now) (state g.S.Store c.query_all.new.self.conn.now) c.query_all.result inside (c.query_all.ensures.ok clean) (c.query_all.ensures.err clean)

pub returns-clause-stays : goal.returns-clause-stays
returns-clause-stays g c clean =
    let old = state g.S.Store c.args.transaction.now.conn.now in
    let new = state g.S.Store c.query_all.new.self.conn.now in
    IfOk-weaker c.query_all.result _ _ (λ rows h. looked list_gone list_gone_plain _ old new rows.items h) (c.query_all.ensures.ok clean)

pub returns-clause-shown : goal.returns-clause-shown
returns-clause-shown g c clean =
    let old = state g.S.Store c.args.transaction.now.conn.now in
    let new = state g.S.Store c.query_all.new.self.conn.now in
    let book = to_z-of_z w64 c.args.book c.ranges.book in
    let range : FitsSigned w64 c.limit_of.result = search rules in
    let limit = to_z-of_z w64 c.limit_of.result range in
    let number = to_z_pos w64 c.args.number (omega (arith, c.requires)) in
    IfOk-weaker c.query_all.result _ _ (λ rows h. shows_gone old new c.args.book c.args.number c.args.at_most rows.items (rw (c.params-to_sql.ensures, c.params-to_sql-2.ensures, c.params-to_sql-3.ensures, book, number, limit, c.limit_of.ensures) at h)) (c.query_all.ensures.ok clean)
