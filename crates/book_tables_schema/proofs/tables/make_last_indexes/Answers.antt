use Rattle.book_tables_schema.proofs.Common.{arith, refl, state, HasCleanDisk, on_ok}
use Rattle.book_tables_schema.specs.Founding.{Indexes, with_members, with_entries, with_removed}
use Rattle.book_tables_schema.proofs.Tabling.{indexes_then, indexes_entries, indexes_removed, indexes_groups}
use Rattle.book_tables_schema.proofs.tables.make_last_indexes.Goals as goal

pub returns-clause-done : goal.returns-clause-done
returns-clause-done g c clean inside =
    let old = state g.S.Store c.args.transaction.now.conn.now in
    let first = state g.S.Store c.run.new.transaction.conn.now in
    let second = state g.S.Store c.run-2.new.transaction.conn.now in
    let new = state g.S.Store c.run-3.new.transaction.conn.now in
    let clean_second : HasCleanDisk second = omega (arith, c.run-3.ensures.survives.clean) in
    let clean_first : HasCleanDisk first = omega (arith, c.run-2.ensures.survives.clean) in
    let one : Indexes old first with_members with_entries = indexes_entries old first (c.in_ok-run.ensures.done clean_first inside) in
    let two : Indexes first second with_entries with_removed = indexes_removed first second (c.in_ok-run-2.ensures.done clean_second one.inside) in
    on_ok c.run-3.result _ _ (λ ran. indexes_then old second new _ _ _ refl (indexes_then old first second _ _ _ refl one two) (indexes_groups second new ran)) (c.run-3.ensures.done clean two.inside)
