use Rattle.std.proofs.Common.{◌≡◌, ◌+◌, ◌-◌, ◌^◌, take, min, arith}
use Rattle.std.specs.List.{sum_by}
use Rattle.book_dumps.specs.Dumps.{counted}
use Rattle.book_dumps_counts.proofs.Sums.{counted_next}
use Rattle.book_dumps_counts.specs.Counts.{entries_at}
use Rattle.book_dumps_counts.proofs.counting.entry_count.Goals as goal

pub loop-line-preserved : goal.loop-line-preserved
loop-line-preserved c =
    let i = c.loop-line.line-index in
    let lines = c.args.lines.now in
    let line = c.line-item.result in
    let next : min (counted (sum_by entries_at (take i lines)) + entries_at line) (2 ^ 64 - 1) ≡ counted (sum_by entries_at (take (i + 1) lines)) =
    counted_next entries_at lines i line line c.loop-line-test.true c.line-item.is in
    omega (arith, next, c.loop-line.invariant)
