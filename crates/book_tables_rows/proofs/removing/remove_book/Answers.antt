use Rattle.book_tables_rows.proofs.Common.{w64, to_z-of_z, FitsSigned, rules, arith, HasCleanDisk, state, Looks, ◌≡◌, map, sym, subst, Database, Int, IsBook, rows_of}
use Rattle.book_tables_rows.specs.Lists.{ShowsChildEntries, listed_node}
use Rattle.book_tables_rows.specs.Writes as writes
use Rattle.book_tables_rows.specs.Nodes.{removing_book}
use Rattle.book_tables_rows.proofs.ChildDeletes.{deletes_shown}
use Rattle.book_tables_rows.proofs.EditedRows.{removes_book}
use Rattle.book_tables_rows.proofs.Keeping.{looks_then}
use Rattle.book_tables_rows.proofs.InScript.{epoch_then, is_there}
use Rattle.book_tables_rows.proofs.Performing.{performs_after}
use Rattle.book_tables_rows.proofs.removing.remove_book.Goals as goal

pub returns-clause-done : goal.returns-clause-done
returns-clause-done g c =
    let old = state g.S.Store c.args.transaction.now.conn.now in
    let s1 = state g.S.Store c.look_up.new.transaction.conn.now in
    let s2 = state g.S.Store c.read_epoch.new.transaction.conn.now in
    let s3 = state g.S.Store c.child_entry_rows.new.transaction.conn.now in
    let f = c.in-Some.book in
    let epoch = c.in_ok-epoch.epoch in
    let shown = c.in_ok-entries.entries.items in
    let all : c.deref.result.now ≡ shown = search rules in
    let range : FitsSigned w64 f.id = search rules in
    let id = to_z-of_z w64 f.id range in
    performs_after old s3 _ _ (removing_book c.args.path.now) _ c.run_all.ensures.survives (λ clean.
    let clean_2 : HasCleanDisk s2 = omega (arith, c.child_entry_rows.ensures.survives.clean, clean) in
    let clean_1 : HasCleanDisk s1 = omega (arith, c.read_epoch.ensures.survives.clean, clean_2) in
    let finds = c.in_ok-book.ensures.found clean_1 in
    let look : Looks old s1 = c.in_ok-book.ensures.stays clean_1 in
    let looks : Looks old s2 = looks_then old s1 s2 look (c.in_ok-epoch.ensures.stays clean_2) in
    let shows : ShowsChildEntries s2 f.id shown = rw id at (c.in_ok-entries.ensures.shown clean) in (
      finds.0,
      looks_then old s2 s3 looks (c.in_ok-entries.ensures.stays clean),
      λ book fits.
          let same = looks.same book in
          let below = subst (λ (d : Database). writes.delete_entries_of (map listed_node c.deref.result.now) (rows_of d.trees) ≡ writes.delete_entries_below (Int f.id) (rows_of d.trees)) same
          (deletes_shown s2 f.id c.deref.result.now shown shows all (subst IsBook (sym same) book)) in
          let x = removes_book _ _ f (is_there old _ f _ c.in-Some.is finds book) epoch _ below fits (epoch_then old s1 epoch look (c.in_ok-epoch.ensures.found clean_2) book fits.meta.0 fits.meta.1) in
          ((tt, (tt, (x.0.0, (tt, (x.0.1, (x.0.2, tt)))))), λ _. x.1),
    )) (rw id at c.run_all.ensures.done)
