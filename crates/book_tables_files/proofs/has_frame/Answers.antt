use Rattle.std.proofs.Common.{◌≡◌, ◌==◌, ◌∙◌, ℕ, ap, arith, length, vec_len}
use Rattle.sqlite_wal.specs.PageSize.{bytes_of}
use Rattle.book_tables_files.proofs.Commits.{frame_told}
use Rattle.book_tables_files.proofs.has_frame.Goals as goal

pub returns-in-Ok-clause-ok : goal.returns-in-Ok-clause-ok
returns-in-Ok-clause-ok g c clean =
    let numbers = c.in-Ok.numbers in
    let long : vec_len numbers ≡ length numbers.items = omega (arith, numbers.ok) in
    frame_told (bytes_of c.args.size) (g.D.Disk.seen c.args.log.now) numbers.items (c.in-Ok.ensures.ok clean).0 c.is_empty.result (c.is_empty.ensures ∙ ap (λ (n : ℕ). n == 0) long)
