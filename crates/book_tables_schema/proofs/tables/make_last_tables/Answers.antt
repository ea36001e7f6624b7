use Rattle.book_tables_schema.proofs.Common.{arith, state, HasCleanDisk, on_ok, Extends}
use Rattle.book_tables_schema.specs.Founding.{with_member, with_gone}
use Rattle.book_tables_schema.proofs.Tabling.{extends_then, adds_gone, adds_meta}
use Rattle.book_tables_schema.proofs.tables.make_last_tables.Goals as goal

pub returns-clause-done : goal.returns-clause-done
returns-clause-done g c clean inside =
    let old = state g.S.Store c.args.transaction.now.conn.now in
    let between = state g.S.Store c.run.new.transaction.conn.now in
    let new = state g.S.Store c.run-2.new.transaction.conn.now in
    let clean_between : HasCleanDisk between = omega (arith, c.run-2.ensures.survives.clean) in
    let one : Extends old between with_member with_gone = adds_gone old between (c.in_ok-run.ensures.done clean_between inside) in
    on_ok c.run-2.result _ _ (λ ran. extends_then old between new _ _ _ one (adds_meta between new ran)) (c.run-2.ensures.done clean one.inside)
