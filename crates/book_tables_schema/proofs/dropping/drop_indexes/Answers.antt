use Rattle.book_tables_schema.proofs.Common.{arith, state, HasCleanDisk, on_ok}
use Rattle.book_tables_schema.proofs.DroppedIndexes.{drops_all}
use Rattle.book_tables_schema.proofs.dropping.drop_indexes.Goals as goal

pub returns-clause-dropped : goal.returns-clause-dropped
returns-clause-dropped g c clean inside =
    let old = state g.S.Store c.args.transaction.now.conn.now in
    let first = state g.S.Store c.drop_node_indexes.new.transaction.conn.now in
    let second = state g.S.Store c.drop_principal_indexes.new.transaction.conn.now in
    let new = state g.S.Store c.drop_last_indexes.new.transaction.conn.now in
    let clean_second : HasCleanDisk second = omega (arith, c.drop_last_indexes.ensures.survives.clean) in
    let clean_first : HasCleanDisk first = omega (arith, c.drop_principal_indexes.ensures.survives.clean) in
    let one = c.in_ok-drop_node_indexes.ensures.dropped clean_first inside in
    let two = c.in_ok-drop_principal_indexes.ensures.dropped clean_second one.inside in
    on_ok c.drop_last_indexes.result _ _ (drops_all old first second new one two) (c.drop_last_indexes.ensures.dropped clean two.inside)
