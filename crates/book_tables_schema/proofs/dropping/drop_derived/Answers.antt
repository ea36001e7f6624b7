use Rattle.book_tables_schema.proofs.Common.{arith, state, HasCleanDisk, on_ok}
use Rattle.book_tables_schema.proofs.DroppedReach.{drops_derived}
use Rattle.book_tables_schema.proofs.dropping.drop_derived.Goals as goal

pub returns-clause-dropped : goal.returns-clause-dropped
returns-clause-dropped g c clean inside =
    let old = state g.S.Store c.args.transaction.now.conn.now in
    let between = state g.S.Store c.drop_indexes.new.transaction.conn.now in
    let new = state g.S.Store c.run.new.transaction.conn.now in
    let clean_between : HasCleanDisk between = omega (arith, c.run.ensures.survives.clean) in
    let one = c.in_ok-drop_indexes.ensures.dropped clean_between inside in
    on_ok c.run.result _ _ (drops_derived old between new one) (c.run.ensures.done clean one.inside)
