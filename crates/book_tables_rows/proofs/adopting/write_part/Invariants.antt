use Rattle.book_tables_rows.proofs.Common.{◌≡◌, state}
use Rattle.book_tables_rows.specs.Parts.{part_from}
use Rattle.book_tables_rows.proofs.InScript.{OnTheWay}
use Rattle.book_tables_rows.proofs.adopting.write_part.Given as goal

-- those so far were written
abbrev pub invariant-part : goal.invariant-part
invariant-part g l =
    (l.transaction.conn.ghost_name ≡ l.fn.transaction.conn.ghost_name)
    × OnTheWay (state g.S.Store l.fn.transaction.conn.now) (state g.S.Store l.transaction.conn.now) (part_from l.part l.place) (part_from l.part 0)
