use Rattle.book_tables_rows.proofs.Common.{w64, to_z-of_z, FitsSigned, rules, arith, HasCleanDisk, state, Looks, ◌≡◌, Some, option_map, string_bytes, option_copied}
use Rattle.book_tables_rows.specs.Nodes.{copying_card}
use Rattle.book_tables_rows.proofs.EditedRows.{copies}
use Rattle.book_tables_rows.proofs.Keeping.{looks_then, unseen_then}
use Rattle.book_tables_rows.proofs.InScript.{is_there, is_there_then}
use Rattle.book_tables_rows.proofs.Performing.{performs_after}
use Rattle.book_tables_rows.proofs.copying.copy_card.Goals as goal

pub returns-clause-survives : goal.returns-clause-survives
returns-clause-survives g c =
    unseen_then _ _ _ c.look_up.ensures.survives (unseen_then _ _ _ c.look_up-2.ensures.survives c.run_all.ensures.survives)

pub returns-clause-done : goal.returns-clause-done
returns-clause-done g c =
    let old = state g.S.Store c.args.transaction.now.conn.now in
    let s1 = state g.S.Store c.look_up.new.transaction.conn.now in
    let s2 = state g.S.Store c.look_up-2.new.transaction.conn.now in
    let source = c.in-Some.source in
    let f = c.in-Some-2.book in
    let owner = option_copied c.args.owner in
    let range : FitsSigned w64 f.id = search rules in
    let label : c.as_str.result.now ≡ string_bytes source.label = search rules in
    let text : c.as_str-2.result.now ≡ string_bytes c.in-Some-text.text = search rules in
    let text_is : option_map string_bytes source.text ≡ Some (string_bytes c.in-Some-text.text) = search rules in
    performs_after old s2 _ _ (copying_card c.args.source_path.now c.args.book_path.now c.args.card_path.now c.args.name.now owner) _ c.run_all.ensures.survives (λ clean.
    let clean_1 : HasCleanDisk s1 = omega (arith, c.look_up-2.ensures.survives.clean, clean) in
    let finds = c.in_ok-source.ensures.found clean_1 in
    let look : Looks old s1 = c.in_ok-source.ensures.stays clean_1 in (
      finds.0,
      looks_then old s1 s2 look (c.in_ok-book.ensures.stays clean),
      λ book fits.
          let source_at = is_there old _ source _ c.in-Some.is finds book in
          let at = is_there_then old s1 _ f _ look c.in-Some-2.is (c.in_ok-book.ensures.found clean) book in
          ((tt, (tt, tt)), λ _. copies _ _ f at c.args.source_path.now c.args.card_path.now c.args.name.now owner source source_at (string_bytes c.in-Some-text.text) text_is),
    )) (rw (to_z-of_z w64 f.id range, label, text) at c.run_all.ensures.done)
