use Rattle.book_tables_rows.proofs.Common.{◌≡◌, drop, state}
use Rattle.book_tables_rows.specs.Scripts.{script}
use Rattle.book_tables_rows.proofs.InScript.{OnTheWay}
use Rattle.book_tables_rows.proofs.script.run_all.Given as goal

-- the statements so far were run
abbrev pub invariant-statements : goal.invariant-statements
invariant-statements g l =
    (l.transaction.conn.ghost_name ≡ l.fn.transaction.conn.ghost_name)
    × OnTheWay (state g.S.Store l.fn.transaction.conn.now) (state g.S.Store l.transaction.conn.now) (script (drop l.statement-index l.statements)) (script l.statements)
