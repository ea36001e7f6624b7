use Rattle.std.proofs.Common.{◌≡◌, ◌++◌, map, take}
use Rattle.std.specs.List.{concat}
use Rattle.book_dumps.specs.Lines.{line_text}
use Rattle.book_dumps_reading.proofs.dumped.push_lines.Given as goal

-- the lines so far were added
abbrev pub invariant-loop-line : goal.invariant-loop-line
invariant-loop-line l = l.bytes.items ≡ l.fn.bytes.items ++ concat (map line_text (take l.line-index l.lines))
