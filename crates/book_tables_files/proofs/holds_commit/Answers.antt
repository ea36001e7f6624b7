use Rattle.std.proofs.Common.{None, true≢false, sym, subst}
use Rattle.std.proofs.lemmas.Result.{IfOk-weaker}
use Rattle.sqlite_wal.specs.PageSize.{bytes_of}
use Rattle.sqlite_wal.proofs.CleanLemmas.{halves}
use Rattle.book_tables_files.specs.Finding.{TellsFrame}
use Rattle.book_tables_files.proofs.Commits.{commit_told, no_size}
use Rattle.book_tables_files.proofs.holds_commit.Goals as goal

pub returns-in-Ok-Some-clause-ok : goal.returns-in-Ok-Some-clause-ok
returns-in-Ok-Some-clause-ok g c =
    let size = c.in-Ok-Some.size in
    IfOk-weaker c.has_frame.result _ _
    (λ b told clean. commit_told (bytes_of size) (g.D.Disk.seen c.args.files.now.log) b (size.smallest, size.largest, size.power, size.aligned)
    (subst (λ log. TellsFrame (bytes_of size) log b) c.probe_page_size.ensures.log.seen (told (halves g.D.Disk c.has_frame.new.log c.probe_page_size.new.files.db clean).0)))
    c.has_frame.ensures.ok

pub returns-in-Ok-None-clause-ok : goal.returns-in-Ok-None-clause-ok
returns-in-Ok-None-clause-ok g c clean =
    let none = no_size (g.D.Disk.seen c.args.files.now.log) (rw c.in-Ok-None.field-0-is at (c.in-Ok-None.ensures.by_log clean)) in
    (λ yes. absurd (true≢false (sym yes)), λ held. absurd (none held))
