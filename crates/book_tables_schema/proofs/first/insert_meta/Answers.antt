use Rattle.book_tables_schema.proofs.Common.{state}
use Rattle.book_tables_rows.proofs.RowInserts.{becomes_begun}
use Rattle.book_tables_schema.proofs.first.insert_meta.Goals as goal

pub returns-clause-done : goal.returns-clause-done
returns-clause-done g c clean inside =
    becomes_begun (state g.S.Store c.args.transaction.now.conn.now) (state g.S.Store c.execute.new.self.conn.now) 2 0 c.in_ok-execute.field-0
    (rw (c.params-to_sql.ensures, c.params-to_sql-2.ensures) at (c.in_ok-execute.ensures.runs clean inside))
