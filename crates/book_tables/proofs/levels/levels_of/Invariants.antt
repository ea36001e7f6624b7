use Rattle.book_tables.proofs.Common.{◌≡◌, ◌++◌, ◌⊎◌, length, map, IsTrue, into_iter_items, into_iter_len, state, HasCleanDisk, Survives, levels, rows_of, IsBook, Looks, level_told}
use Rattle.book_tables_rows.specs.Steps.{Keeps}
use Rattle.book_tables.proofs.levels.levels_of.Given as goal

-- the levels so far and those to come are those of the path, and the connection was open once one is there
abbrev pub invariant-loop-path : goal.invariant-loop-path
invariant-loop-path g l =
    let old = state g.S.Store l.fn.transaction.conn.now in
    let now = state g.S.Store l.transaction.conn.now in
    record {
      same : l.transaction.conn.ghost_name ≡ l.fn.transaction.conn.ghost_name;
      survives : Survives old now (λ _. ⊥);
      kept : Keeps old now;
      looks : HasCleanDisk now → Looks old now;
      begun : HasCleanDisk now → ((l.transaction.conn.now ≡ l.fn.transaction.conn.now) × (into_iter_items l.path-iterator ≡ levels l.path)) ⊎ IsTrue old.is_open;
      parts : HasCleanDisk now → IsBook old.now
          → l.levels.items ++ map (level_told (rows_of old.now.trees)) (into_iter_items l.path-iterator) ≡ map (level_told (rows_of old.now.trees)) (levels l.path);
      count : into_iter_len l.path-iterator ≡ length (into_iter_items l.path-iterator);
    }
