use Rattle.std.proofs.Common.{◌≡◌, ◌+◌, ◌≤◌, count_by, drop}
use Rattle.book_dumps_restoring.specs.Restoring.{is_book_line}
use Rattle.book_dumps_restoring.proofs.room.count_books.Given as goal

-- the books so far and those to come are all
abbrev pub invariant-loop-line : goal.invariant-loop-line
invariant-loop-line l = record {
  parts : l.count + count_by is_book_line (drop l.line-index l.lines) ≡ count_by is_book_line l.lines;
  few : l.count ≤ l.line-index;
}
