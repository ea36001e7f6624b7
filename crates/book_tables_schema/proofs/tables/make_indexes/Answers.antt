use Rattle.book_tables_schema.proofs.Common.{arith, refl, state, HasCleanDisk, on_ok, with_all}
use Rattle.book_tables_schema.specs.Founding.{Indexes, with_reach, with_owner, with_members}
use Rattle.book_tables_schema.proofs.Tabling.{indexes_then}
use Rattle.book_tables_schema.proofs.tables.make_indexes.Goals as goal

pub returns-clause-done : goal.returns-clause-done
returns-clause-done g c clean inside =
    let old = state g.S.Store c.args.transaction.now.conn.now in
    let first = state g.S.Store c.make_node_indexes.new.transaction.conn.now in
    let second = state g.S.Store c.make_principal_indexes.new.transaction.conn.now in
    let new = state g.S.Store c.make_last_indexes.new.transaction.conn.now in
    let clean_second : HasCleanDisk second = omega (arith, c.make_last_indexes.ensures.survives.clean) in
    let clean_first : HasCleanDisk first = omega (arith, c.make_principal_indexes.ensures.survives.clean) in
    let one : Indexes old first with_reach with_owner = c.in_ok-make_node_indexes.ensures.done clean_first inside in
    let two : Indexes first second with_owner with_members = c.in_ok-make_principal_indexes.ensures.done clean_second one.inside in
    on_ok c.make_last_indexes.result _ _ (λ three. indexes_then old second new with_reach with_members with_all refl (indexes_then old first second with_reach with_owner with_members refl one two) three) (c.make_last_indexes.ensures.done clean two.inside)
