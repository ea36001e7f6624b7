use Rattle.std.proofs.Common.{◌≡◌, ◌++◌, length, map}
use Rattle.std.specs.List.{concat}
use Rattle.book_dumps.specs.Lines.{line_text}
use Rattle.book_dumps_reading.proofs.reading.read_lines.Given as goal

-- the text is that of the lines so far and the rest
abbrev pub invariant-loop-lines : goal.invariant-loop-lines
invariant-loop-lines l = l.text ≡ concat (map line_text l.lines) ++ l.rest

abbrev pub decreases-loop-lines : goal.decreases-loop-lines
decreases-loop-lines l = length l.rest
