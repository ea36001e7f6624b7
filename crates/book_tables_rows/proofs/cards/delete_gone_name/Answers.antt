use Rattle.book_tables_rows.proofs.Common.{w64, to_z-of_z, state}
use Rattle.book_tables_rows.proofs.Becoming.{becomes_unremoved}
use Rattle.book_tables_rows.proofs.cards.delete_gone_name.Goals as goal

pub returns-clause-done : goal.returns-clause-done
returns-clause-done g c clean inside =
    let book = to_z-of_z w64 c.args.book c.ranges.book in
    becomes_unremoved (state g.S.Store c.args.transaction.now.conn.now) (state g.S.Store c.execute.new.self.conn.now) c.args.book c.args.name.now c.in_ok-execute.field-0
    (rw (c.params-to_sql.ensures, c.params-to_sql-2.ensures, book) at (c.in_ok-execute.ensures.runs clean inside))
