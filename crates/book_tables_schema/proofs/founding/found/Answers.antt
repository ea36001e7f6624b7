use Rattle.book_tables_schema.proofs.Common.{arith, state, HasCleanDisk, on_ok, Extends, no_schema, with_all}
use Rattle.book_tables_schema.proofs.FirstRows.{founds}
use Rattle.book_tables_schema.proofs.founding.found.Goals as goal

pub returns-clause-done : goal.returns-clause-done
returns-clause-done g c clean inside =
    let old = state g.S.Store c.args.transaction.now.conn.now in
    let between = state g.S.Store c.make_tables.new.transaction.conn.now in
    let new = state g.S.Store c.insert_first.new.transaction.conn.now in
    let clean_between : HasCleanDisk between = omega (arith, c.insert_first.ensures.survives.clean) in
    let made : Extends old between no_schema with_all = c.in_ok-make_tables.ensures.done clean_between inside in
    on_ok c.insert_first.result _ _ (λ written. founds old between new made written) (c.insert_first.ensures.done clean made.inside)
