use Rattle.book_tables_schema.proofs.Common.{state, on_ok}
use Rattle.book_tables_schema.proofs.DroppedReach.{drops_former}
use Rattle.book_tables_schema.proofs.dropping.drop_former_entries.Goals as goal

pub returns-clause-dropped : goal.returns-clause-dropped
returns-clause-dropped g c clean inside =
    on_ok c.run.result _ _ (drops_former (state g.S.Store c.args.transaction.now.conn.now) (state g.S.Store c.run.new.transaction.conn.now)) (c.run.ensures.done clean inside)
