use Rattle.book_tables_findings.proofs.Common.{◌≡◌, take, AllByRecursion, state, HasCleanDisk}
use Rattle.sqlite.specs.State.{Survives}
use Rattle.book_tables_rows.specs.Rows.{IsBook, rows_of}
use Rattle.book_tables_rows.specs.Steps.{Keeps, Looks}
use Rattle.book_tables_opening.specs.Opening.{HasTextIn}
use Rattle.book_tables_findings.proofs.texts.broken_text.Given as goal

-- the nodes so far have their texts
abbrev pub invariant-loop-node : goal.invariant-loop-node
invariant-loop-node g l =
    let old = state g.S.Store l.fn.transaction.conn.now in
    let now = state g.S.Store l.transaction.conn.now in
    record {
      same : l.transaction.conn.ghost_name ≡ l.fn.transaction.conn.ghost_name;
      survives : Survives old now (λ _. ⊥);
      kept : Keeps old now;
      looks : HasCleanDisk now → Looks old now;
      have : HasCleanDisk now → IsBook old.now → AllByRecursion (HasTextIn (rows_of old.now.trees)) (take l.node-index l.nodes);
    }
