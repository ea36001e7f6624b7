use Rattle.book_tables_rows.proofs.Common.{w64, arith, to_z_pos, state}
use Rattle.book_tables_rows.proofs.Updating.{becomes_copied, tells_copied}
use Rattle.book_tables_rows.proofs.cards.set_copy.Goals as goal

pub returns-clause-done : goal.returns-clause-done
returns-clause-done g c clean inside =
    let number = to_z_pos w64 c.args.number (omega (arith, c.requires)) in
    let old = state g.S.Store c.args.transaction.now.conn.now in
    let new = state g.S.Store c.execute.new.self.conn.now in
    let ran = rw (c.params-to_sql.ensures, c.params-to_sql-2.ensures, c.params-to_sql-3.ensures, c.params-to_sql-4.ensures, number) at (c.in_ok-count.ensures.runs clean inside) in (
      becomes_copied old new c.args.path.now c.args.label.now c.args.text.now c.args.number c.in_ok-count.count ran,
      tells_copied old new c.args.path.now c.args.label.now c.args.text.now c.args.number c.in_ok-count.count ran,
    )
