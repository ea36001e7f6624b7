use Rattle.std.proofs.Common.{◌≡◌, take}
use Rattle.std.specs.List.{sum_by}
use Rattle.book_dumps.specs.Dumps.{counted}
use Rattle.book_dumps_counts.specs.Counts.{members_at}
use Rattle.book_dumps_counts.proofs.counting.member_count.Given as goal

-- the lines so far were counted
abbrev pub invariant-loop-line : goal.invariant-loop-line
invariant-loop-line l = l.count ≡ counted (sum_by members_at (take l.line-index l.lines))
