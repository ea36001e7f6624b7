use Rattle.std.proofs.Common.{sym, subst, inl, inr}
use Rattle.std.proofs.lemmas.Result.{IfErr-weaker, IfOk-weaker}
use Rattle.sqlite.proofs.FileLemmas.{same_image}
use Rattle.sqlite.specs.Files.{image_of}
use Rattle.book_tables_files.specs.Finding.{IsUnmade, TellsNew}
use Rattle.book_tables_files.proofs.Seeing.{first_before, found_there, left_before, made_there}
use Rattle.book_tables_files.proofs.open_store_files.Goals as goal

pub returns-in-Ok-true-clause-found : goal.returns-in-Ok-true-clause-found
returns-in-Ok-true-clause-found g c =
    let read = c.is_new.ensures in
    IfOk-weaker c.create.result _ _ (λ it made clean. let there = made clean in
    made_there c.args.files c.is_new.new.files read.log read.db it (subst (TellsNew (image_of g.D.Disk c.args.files)) c.in-Ok-true.field-0-test (c.in-Ok-true.ensures.ok there.0)) there.0 there.1) c.create.ensures.made

pub returns-in-Ok-false-clause-found : goal.returns-in-Ok-false-clause-found
returns-in-Ok-false-clause-found g c =
    let read = c.is_new.ensures in
    IfOk-weaker c.reopen.result _ _ (λ it found clean.
    found_there c.args.files c.is_new.new.files read.log read.db it (λ before. subst (TellsNew (image_of g.D.Disk c.args.files)) c.in-Ok-false.field-0-test (c.in-Ok-false.ensures.ok before)) (found clean)) c.reopen.ensures.found

pub create-requires-clause-unmade : goal.create-requires-clause-unmade
create-requires-clause-unmade g c clean =
    let read = c.is_new.ensures in
    subst IsUnmade (sym (same_image read.log read.db)) (subst (TellsNew (image_of g.D.Disk c.args.files)) c.in-Ok-true.field-0-test (c.in-Ok-true.ensures.ok clean)).0

pub returns-in-Ok-true-clause-kept : goal.returns-in-Ok-true-clause-kept
returns-in-Ok-true-clause-kept g c =
    let read = c.is_new.ensures in
    IfErr-weaker c.create.result _ _ (λ e begun clean. let there = begun clean in
    inr (subst (TellsNew (image_of g.D.Disk c.args.files)) c.in-Ok-true.field-0-test (c.in-Ok-true.ensures.ok there.0), first_before c.args.files c.is_new.new.files read.log read.db e.1 there.1)) c.create.ensures.begun

pub returns-in-Ok-false-clause-kept : goal.returns-in-Ok-false-clause-kept
returns-in-Ok-false-clause-kept g c =
    let read = c.is_new.ensures in
    IfErr-weaker c.reopen.result _ _ (λ e leaves clean. inl (left_before c.args.files c.is_new.new.files read.log read.db e.1 (leaves clean))) c.reopen.ensures.kept
