use Rattle.book_tables_schema.proofs.Common.{arith, state, HasCleanDisk, on_ok}
use Rattle.book_tables_schema.proofs.DroppedIndexes.{drops_last}
use Rattle.book_tables_schema.proofs.dropping.drop_last_indexes.Goals as goal

pub returns-clause-dropped : goal.returns-clause-dropped
returns-clause-dropped g c clean inside =
    let old = state g.S.Store c.args.transaction.now.conn.now in
    let first = state g.S.Store c.run.new.transaction.conn.now in
    let second = state g.S.Store c.run-2.new.transaction.conn.now in
    let new = state g.S.Store c.run-3.new.transaction.conn.now in
    let clean_second : HasCleanDisk second = omega (arith, c.run-3.ensures.survives.clean) in
    let clean_first : HasCleanDisk first = omega (arith, c.run-2.ensures.survives.clean) in
    let one = c.in_ok-run.ensures.done clean_first inside in
    let two = c.in_ok-run-2.ensures.done clean_second one.1.1.mode in
    on_ok c.run-3.result _ _ (drops_last old first second new one two) (c.run-3.ensures.done clean two.1.1.mode)
