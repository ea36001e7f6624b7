use Rattle.sqlite.specs.Held.{state}
use Rattle.book_tables_renewing.proofs.CopiedRows.{copies_back}
use Rattle.book_tables_renewing.proofs.reordering.copy_back.Goals as goal

pub returns-clause-done : goal.returns-clause-done
returns-clause-done g c clean inside =
    copies_back (state g.S.Store c.args.transaction.now.conn.now) (state g.S.Store c.execute.new.self.conn.now) c.in_ok-execute.field-0 (c.in_ok-execute.ensures.runs clean inside)
