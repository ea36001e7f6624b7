use Rattle.book_tables_rows.proofs.Common.{w64, to_z-of_z, FitsSigned, rules, arith, HasCleanDisk, state, Looks, map, said}
use Rattle.book_tables_rows.specs.Nodes.{setting_list}
use Rattle.book_tables_rows.proofs.EditedRows.{sets_list}
use Rattle.book_tables_rows.proofs.Keeping.{looks_then}
use Rattle.book_tables_rows.proofs.InScript.{epoch_then, is_there}
use Rattle.book_tables_rows.proofs.Performing.{performs_after}
use Rattle.book_tables_rows.proofs.setting.set_list.Goals as goal

pub returns-clause-done : goal.returns-clause-done
returns-clause-done g c =
    let old = state g.S.Store c.args.transaction.now.conn.now in
    let s1 = state g.S.Store c.look_up.new.transaction.conn.now in
    let s2 = state g.S.Store c.read_epoch.new.transaction.conn.now in
    let f = c.in-Some.node in
    let epoch = c.in_ok-epoch.epoch in
    let list = map said c.args.list.now in
    let range : FitsSigned w64 f.id = search rules in
    performs_after old s2 _ _ (setting_list c.args.path.now list) _ c.run_all.ensures.survives (λ clean.
    let clean_1 : HasCleanDisk s1 = omega (arith, c.read_epoch.ensures.survives.clean, clean) in
    let finds = c.in_ok-node.ensures.found clean_1 in
    let look : Looks old s1 = c.in_ok-node.ensures.stays clean_1 in (
      finds.0,
      looks_then old s1 s2 look (c.in_ok-epoch.ensures.stays clean),
      λ book fits.
          let at = is_there old _ f _ c.in-Some.is finds book in
          let x = sets_list _ _ list f epoch at fits (epoch_then old s1 epoch look (c.in_ok-epoch.ensures.found clean) book fits.meta.0 fits.meta.1) in
          ((tt, (tt, (x.0, tt))), λ _. x.1),
    )) (rw (to_z-of_z w64 f.id range) at c.run_all.ensures.done)
