use Rattle.book_tables_rows.proofs.Common.{w64, to_z-of_z, FitsSigned, rules, arith, HasCleanDisk, state, Looks}
use Rattle.book_tables_rows.specs.Nodes.{removing_card}
use Rattle.book_tables_rows.proofs.EditedRows.{is_free, removes_card}
use Rattle.book_tables_rows.proofs.Keeping.{looks_then}
use Rattle.book_tables_rows.proofs.InScript.{is_there, is_there_then}
use Rattle.book_tables_rows.proofs.Performing.{performs_after}
use Rattle.book_tables_rows.proofs.changing.remove_card.Goals as goal

pub returns-clause-done : goal.returns-clause-done
returns-clause-done g c =
    let old = state g.S.Store c.args.transaction.now.conn.now in
    let s1 = state g.S.Store c.look_up.new.transaction.conn.now in
    let s2 = state g.S.Store c.look_up-2.new.transaction.conn.now in
    let f = c.in-Some.book in
    let card = c.in-Some-2.card in
    let range : FitsSigned w64 f.id = search rules in
    let card_range : FitsSigned w64 card.id = search rules in
    performs_after old s2 _ _ (removing_card c.args.book_path.now c.args.card_path.now c.args.name.now) _ c.run_all.ensures.survives (λ clean.
    let clean_1 : HasCleanDisk s1 = omega (arith, c.look_up-2.ensures.survives.clean, clean) in
    let finds = c.in_ok-book.ensures.found clean_1 in
    let look : Looks old s1 = c.in_ok-book.ensures.stays clean_1 in (
      finds.0,
      looks_then old s1 s2 look (c.in_ok-card.ensures.stays clean),
      λ book fits.
          let at = is_there old _ f _ c.in-Some.is finds book in
          let card_at = is_there_then old s1 _ card _ look c.in-Some-2.is (c.in_ok-card.ensures.found clean) book in
          ((tt, (is_free _ _ card card_at fits, (tt, (tt, tt)))), λ _. removes_card _ _ f at c.args.card_path.now c.args.name.now card card_at),
    )) (rw (to_z-of_z w64 f.id range, to_z-of_z w64 card.id card_range) at c.run_all.ensures.done)
