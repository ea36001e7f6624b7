use Rattle.book_tables_schema.proofs.Common.{[], codes, refl, state}
use Rattle.sqlite.specs.declared.types.Value.TheVariants.{Null}
use Rattle.book_tables_rows.proofs.Becoming.{becomes_inserted}
use Rattle.book_tables_schema.proofs.first.insert_root.Goals as goal

pub returns-clause-done : goal.returns-clause-done
returns-clause-done g c clean inside =
    becomes_inserted (state g.S.Store c.args.transaction.now.conn.now) (state g.S.Store c.execute.new.self.conn.now) (codes "/") [] Null Null Null 0 0 refl refl refl c.in_ok-execute.field-0
    (rw (c.params-to_sql.ensures, c.params-to_sql-2.ensures, c.params-to_sql-3.ensures, c.params-to_sql-4.ensures, c.params-to_sql-5.ensures, c.params-to_sql-6.ensures, c.params-to_sql-7.ensures) at (c.in_ok-execute.ensures.runs clean inside))
