use Rattle.book_tables_schema.proofs.Common.{state}
use Rattle.book_tables_schema.proofs.FormerRows.{emptied}
use Rattle.book_tables_schema.proofs.former.empty_former.Goals as goal

pub returns-clause-done : goal.returns-clause-done
returns-clause-done g c clean inside =
    let old = state g.S.Store c.args.transaction.now.conn.now in
    let new = state g.S.Store c.execute.new.self.conn.now in
    let h = c.in_ok-execute.ensures.runs clean inside in
    record { inside = h.1.mode; was_open = h.1.was_open; is_open = h.1.is_open; made = emptied old new c.in_ok-execute.field-0 h }
