use Rattle.book_tables_opening.proofs.Common.{arith, state, HasCleanDisk}
use Rattle.book_tables_rows.proofs.Keeping.{on_ok}
use Rattle.book_tables_schema.specs.OtherReach.{DropsDerived}
use Rattle.book_tables_opening.proofs.SettledStores.{made_anew}
use Rattle.book_tables_opening.proofs.opening.make_anew.Goals as goal

pub returns-clause-made : goal.returns-clause-made
returns-clause-made g c clean inside =
    let old = state g.S.Store c.args.transaction.now.conn.now in
    let between = state g.S.Store c.drop_derived.new.transaction.conn.now in
    let new = state g.S.Store c.make_derived.new.transaction.conn.now in
    let clean_between : HasCleanDisk between = omega (arith, c.make_derived.ensures.survives.clean) in
    let drops : DropsDerived old between = c.in_ok-drop_derived.ensures.dropped clean_between inside in
    on_ok c.make_derived.result _ _ (made_anew old between new drops) (c.make_derived.ensures.got clean drops.inside)
