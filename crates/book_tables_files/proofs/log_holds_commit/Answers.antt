use Rattle.std.proofs.Common.{◌≡◌, ◌↔◌, IsTrue, length, refl, subst}
use Rattle.std.proofs.lemmas.Result.{IfOk-weaker}
use Rattle.sqlite_disk.specs.Disk.{Torn}
use Rattle.sqlite_disk.specs.Memory.{memory_bytes}
use Rattle.book_tables_files.specs.Finding.{HoldsCommit}
use Rattle.book_tables_files.proofs.Commits.{written_is}
use Rattle.book_tables_files.proofs.log_holds_commit.Goals as goal

pub returns-in-Ok-clause-ok : goal.returns-in-Ok-clause-ok
returns-in-Ok-clause-ok c =
    let bytes = c.args.log.now in
    let torn = subst (λ old. Torn 0 (length bytes) old (memory_bytes c.write_at.new.self)) c.new.ensures.empty c.write_at.ensures.others in
    let same : memory_bytes c.write_at.new.self ≡ bytes = written_is bytes (memory_bytes c.write_at.new.self) c.in-Ok.ensures.written torn in
    IfOk-weaker c.holds_commit.result _ _ (λ b told. subst (λ log. IsTrue b ↔ HoldsCommit log) same (told refl)) c.holds_commit.ensures.ok
