use Rattle.book_tables_schema.proofs.Common.{state, on_ok}
use Rattle.book_tables_schema.proofs.Tabling.{adds_ace2, renewed}
use Rattle.book_tables_schema.proofs.tables.make_second_table.Goals as goal

pub returns-clause-done : goal.returns-clause-done
returns-clause-done g c clean inside =
    on_ok c.run.result _ _ (adds_ace2 (state g.S.Store c.args.transaction.now.conn.now) (state g.S.Store c.run.new.transaction.conn.now)) (c.run.ensures.done clean inside)

pub returns-clause-renewed : goal.returns-clause-renewed
returns-clause-renewed g c clean inside =
    on_ok c.run.result _ _ (renewed (state g.S.Store c.args.transaction.now.conn.now) (state g.S.Store c.run.new.transaction.conn.now)) (c.run.ensures.done clean inside)
