use Rattle.std.proofs.Common.{sym, subst}
use Rattle.std.proofs.lemmas.Result.{IfErr-weaker, IfOk-weaker}
use Rattle.sqlite.specs.Effect.{Database}
use Rattle.sqlite.specs.Files.{AreFoundIn, file_state, image_of}
use Rattle.book_tables_files.proofs.Rising.{found_rise, ok_both}
use Rattle.book_tables_files.proofs.Seeing.{found_before, left_before}
use Rattle.book_tables_files.proofs.reopen.Goals as goal

pub returns-clause-rising : goal.returns-clause-rising
returns-clause-rising g c =
    let files = c.probe_page_size.new.files in
    IfOk-weaker c.open_files.result _ _
    (λ it told clean.
    let opened = told.0 clean in
    let image = image_of g.D.Disk files in
    found_rise image (file_state it).now (opened.1 opened.0.is_open).0 (subst (λ (db : Database). AreFoundIn image db.trees) (sym opened.0.clean) (told.1 clean).reads))
    (ok_both c.open_files.result _ _ c.open_files.ensures.opened c.open_files.ensures.found)

pub returns-clause-found : goal.returns-clause-found
returns-clause-found g c =
    let read = c.probe_page_size.ensures in
    IfOk-weaker c.open_files.result _ _ (λ it found clean. found_before c.args.files c.probe_page_size.new.files read.log read.db it (found clean)) c.open_files.ensures.found

pub returns-clause-kept : goal.returns-clause-kept
returns-clause-kept g c =
    let read = c.probe_page_size.ensures in
    IfErr-weaker c.open_files.result _ _ (λ e leaves clean. left_before c.args.files c.probe_page_size.new.files read.log read.db e.1 (leaves clean)) c.open_files.ensures.unharmed
