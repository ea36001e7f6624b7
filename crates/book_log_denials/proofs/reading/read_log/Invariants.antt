use Rattle.book_log_denials.proofs.Common.{◌≡◌, ◌++◌, length}
use Rattle.book_log_denials.specs.Reading.{log_text}
use Rattle.book_log_denials.proofs.reading.read_log.Given as goal

-- the text is that of the lines so far and the rest
abbrev pub invariant-loop-rest : goal.invariant-loop-rest
invariant-loop-rest l = l.text ≡ log_text l.lines ++ l.rest

abbrev pub decreases-loop-rest : goal.decreases-loop-rest
decreases-loop-rest l = length l.rest
