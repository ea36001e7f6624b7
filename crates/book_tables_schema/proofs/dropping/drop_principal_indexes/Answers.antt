use Rattle.book_tables_schema.proofs.Common.{arith, state, HasCleanDisk, on_ok}
use Rattle.book_tables_schema.proofs.DroppedIndexes.{drops_principal}
use Rattle.book_tables_schema.proofs.dropping.drop_principal_indexes.Goals as goal

pub returns-clause-dropped : goal.returns-clause-dropped
returns-clause-dropped g c clean inside =
    let old = state g.S.Store c.args.transaction.now.conn.now in
    let between = state g.S.Store c.run.new.transaction.conn.now in
    let new = state g.S.Store c.run-2.new.transaction.conn.now in
    let clean_between : HasCleanDisk between = omega (arith, c.run-2.ensures.survives.clean) in
    let one = c.in_ok-run.ensures.done clean_between inside in
    on_ok c.run-2.result _ _ (drops_principal old between new one) (c.run-2.ensures.done clean one.1.1.mode)
