use Rattle.book_tables_rows.proofs.Common.{map, string_bytes}
use Rattle.book_tables_rows.specs.Nodes.{setting_members}
use Rattle.book_tables_rows.specs.Reach.{pair_said}
use Rattle.book_tables_rows.proofs.EditedRows.{sets_members}
use Rattle.book_tables_rows.proofs.Performing.{performs_after}
use Rattle.book_tables_rows.proofs.setting.set_members.Goals as goal

pub returns-clause-done : goal.returns-clause-done
returns-clause-done g c =
    let members = map string_bytes c.args.members.now in
    let gone = map pair_said c.args.old.now in
    let come = map pair_said c.args.new.now in
    performs_after _ _ _ _ (setting_members c.args.group.now members gone come) _ c.run_all.ensures.survives (λ clean.
    let shows = c.in_ok-epoch.ensures.found clean in (
      shows.0,
      c.in_ok-epoch.ensures.stays clean,
      λ book fits.
          let x = sets_members _ c.args.group.now members gone come c.in_ok-epoch.epoch fits (shows.1 book fits.meta.0 fits.meta.1) in
          ((tt, (tt, (tt, (tt, (x.0, tt))))), λ _. x.1),
    )) c.run_all.ensures.done
