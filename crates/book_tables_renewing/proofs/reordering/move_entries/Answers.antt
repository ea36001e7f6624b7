use Rattle.sqlite.specs.Held.{state}
use Rattle.book_tables_renewing.proofs.CopiedRows.{moves}
use Rattle.book_tables_renewing.proofs.reordering.move_entries.Goals as goal

pub returns-clause-done : goal.returns-clause-done
returns-clause-done g c clean inside =
    moves (state g.S.Store c.args.transaction.now.conn.now) (state g.S.Store c.execute.new.self.conn.now) c.in_ok-execute.field-0 (c.in_ok-execute.ensures.runs clean inside)
