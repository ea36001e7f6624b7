use Rattle.book_tables_rows.proofs.Common.{state}
use Rattle.book_tables_rows.proofs.Reaching.{becomes_cleared}
use Rattle.book_tables_rows.proofs.reach.clear_reach.Goals as goal

pub returns-clause-done : goal.returns-clause-done
returns-clause-done g c clean inside =
    becomes_cleared (state g.S.Store c.args.transaction.now.conn.now) (state g.S.Store c.execute.new.self.conn.now) c.in_ok-execute.field-0 (c.in_ok-execute.ensures.runs clean inside)
