use Rattle.std.proofs.Common.{◌≡◌, take, count_by}
use Rattle.book_dumps.specs.declared.lines.Line.{Line}
use Rattle.book_office_values.specs.Paths.{kind_of}
use Rattle.book_dumps_counts.specs.Counts.{is_book}
use Rattle.book_dumps_counts.proofs.counting.book_count.Given as goal

-- the lines so far were counted
abbrev pub invariant-loop-line : goal.invariant-loop-line
invariant-loop-line l = l.count ≡ count_by (λ (line : Line). is_book (kind_of line.path)) (take l.line-index l.lines)
