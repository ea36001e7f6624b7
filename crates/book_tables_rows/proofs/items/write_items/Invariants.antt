use Rattle.book_tables_rows.proofs.Common.{◌≡◌, IsTrue, state, HasCleanDisk}
use Rattle.book_tables_rows.specs.Items.{pieces}
use Rattle.book_tables_rows.proofs.InScript.{OnTheWay}
use Rattle.book_tables_rows.proofs.items.write_items.Given as goal

-- the items so far were written
abbrev pub invariant-items : goal.invariant-items
invariant-items g l =
    let old = state g.S.Store l.fn.transaction.conn.now in
    let now = state g.S.Store l.transaction.conn.now in
    (l.transaction.conn.ghost_name ≡ l.fn.transaction.conn.ghost_name) × OnTheWay old now (pieces l.items l.place) (pieces l.items 0)
    × (HasCleanDisk now → IsTrue old.in_transaction → IsTrue old.is_open → IsTrue now.is_open)
