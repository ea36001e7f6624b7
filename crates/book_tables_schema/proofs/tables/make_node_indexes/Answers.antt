use Rattle.book_tables_schema.proofs.Common.{arith, refl, state, HasCleanDisk, on_ok}
use Rattle.book_tables_schema.specs.Founding.{Indexes, with_reach, with_parent}
use Rattle.book_tables_schema.proofs.Tabling.{indexes_then, indexes_parent, indexes_owner}
use Rattle.book_tables_schema.proofs.tables.make_node_indexes.Goals as goal

pub returns-clause-done : goal.returns-clause-done
returns-clause-done g c clean inside =
    let old = state g.S.Store c.args.transaction.now.conn.now in
    let between = state g.S.Store c.run.new.transaction.conn.now in
    let new = state g.S.Store c.run-2.new.transaction.conn.now in
    let clean_between : HasCleanDisk between = omega (arith, c.run-2.ensures.survives.clean) in
    let one : Indexes old between with_reach with_parent = indexes_parent old between (c.in_ok-run.ensures.done clean_between inside) in
    on_ok c.run-2.result _ _ (λ ran. indexes_then old between new _ _ _ refl one (indexes_owner between new ran)) (c.run-2.ensures.done clean one.inside)
