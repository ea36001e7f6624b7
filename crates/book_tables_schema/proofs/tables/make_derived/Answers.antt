use Rattle.book_tables_schema.proofs.Common.{arith, refl, state, HasCleanDisk, on_ok, Extends, with_all}
use Rattle.book_tables_rows.specs.Texts as text
use Rattle.book_tables_schema.specs.Founding.{Ran, with_ace2, with_reach}
use Rattle.book_tables_schema.proofs.Tabling.{extends_then, extends_by, adds_reach, gets_derived}
use Rattle.book_tables_schema.proofs.tables.make_derived.Goals as goal

pub returns-clause-done : goal.returns-clause-done
returns-clause-done g c clean inside =
    let old = state g.S.Store c.args.transaction.now.conn.now in
    let between = state g.S.Store c.run.new.transaction.conn.now in
    let new = state g.S.Store c.make_indexes.new.transaction.conn.now in
    let clean_between : HasCleanDisk between = omega (arith, c.make_indexes.ensures.survives.clean) in
    let one : Extends old between with_ace2 with_reach = adds_reach old between (c.in_ok-run.ensures.done clean_between inside) in
    on_ok c.make_indexes.result _ _ (λ made. extends_then old between new _ _ _ one (extends_by between new with_reach with_all refl made)) (c.make_indexes.ensures.done clean one.inside)

pub returns-clause-got : goal.returns-clause-got
returns-clause-got g c clean inside =
    let old = state g.S.Store c.args.transaction.now.conn.now in
    let between = state g.S.Store c.run.new.transaction.conn.now in
    let new = state g.S.Store c.make_indexes.new.transaction.conn.now in
    let clean_between : HasCleanDisk between = omega (arith, c.make_indexes.ensures.survives.clean) in
    let one : Ran text.create_reach old between = c.in_ok-run.ensures.done clean_between inside in
    on_ok c.make_indexes.result _ _ (λ made. gets_derived old between new one made) (c.make_indexes.ensures.done clean one.1.1.mode)
