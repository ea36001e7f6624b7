use Rattle.book_log_lines.proofs.Common.{ℕ}
use Rattle.std.proofs.Common.{◌<◌, IsTrue, get_or}
use Rattle.book_log_lines.specs.Times.{fits, time_form}
use Rattle.book_log_lines.proofs.times.is_time.Given as goal

-- each byte before the index fits
abbrev pub invariant-loop-index : goal.invariant-loop-index
invariant-loop-index l = (i : ℕ) → i < l.index → IsTrue (fits (get_or time_form i 0) (get_or l.text i 0))
