use Rattle.book_tables_rows.proofs.Common.{map, arith, ◌∙◌, IsTrue, HasCleanDisk, state, rows_of, placed_row, listed_row, joined, Looks}
use Rattle.book_tables_rows.specs.Adopting.{adopting}
use Rattle.book_tables_rows.specs.Reach.{pair_said}
use Rattle.book_tables_rows.proofs.InScript.{and_then, edits}
use Rattle.book_tables_rows.proofs.Keeping.{on_ok}
use Rattle.book_tables_rows.proofs.PolicyWrites.{adopts}
use Rattle.book_tables_rows.proofs.adopting.adopt_rows.Goals as goal

pub returns-clause-done : goal.returns-clause-done
returns-clause-done g c clean inside =
    let old = state g.S.Store c.args.transaction.now.conn.now in
    let s1 = state g.S.Store c.read_epoch.new.transaction.conn.now in
    let s2 = state g.S.Store c.write_part.new.transaction.conn.now in
    let s3 = state g.S.Store c.write_part-2.new.transaction.conn.now in
    let s4 = state g.S.Store c.write_part-3.new.transaction.conn.now in
    let new = state g.S.Store c.run_all.new.transaction.conn.now in
    let clean_4 : HasCleanDisk s4 = omega (arith, c.run_all.ensures.survives.clean) in
    let clean_3 : HasCleanDisk s3 = omega (arith, c.write_part-3.ensures.survives.clean) in
    let clean_2 : HasCleanDisk s2 = omega (arith, c.write_part-2.ensures.survives.clean) in
    let clean_1 : HasCleanDisk s1 = omega (arith, c.write_part.ensures.survives.clean) in
    let look : Looks old s1 = c.in_ok-epoch.ensures.stays clean_1 in
    let inside_1 : IsTrue s1.in_transaction = look.mode ∙ inside in
    let shows = c.in_ok-epoch.ensures.found clean_1 in
    let first = c.in_ok-write_part.ensures.done clean_2 inside_1 in
    let second = c.in_ok-write_part-2.ensures.done clean_3 first.inside in
    let third = c.in_ok-write_part-3.ensures.done clean_4 second.inside in
    let places = map placed_row c.args.places.now in
    let lists = map listed_row c.args.lists.now in
    let groups = map joined c.args.groups.now in
    let gone = map pair_said c.args.old.now in
    let come = map pair_said c.args.new.now in
    on_ok c.run_all.result _ _ (λ w. edits old s1 new (adopting places lists groups gone come) _ shows.0 look
    (and_then s1 s4 new _ _ (and_then s1 s3 s4 _ _ (and_then s1 s2 s3 _ _ first second) third) w)
    (λ book fits.
    let x = adopts (rows_of old.now.trees) places lists groups gone come c.in_ok-epoch.epoch fits (shows.1 book fits.meta.0 fits.meta.1) in
    ((((tt, tt), tt), (tt, (tt, (x.0, tt)))), λ such. x.1 such.0.0))) (c.run_all.ensures.done clean third.inside)
