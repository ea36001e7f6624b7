use Rattle.book_tables_opening.proofs.Common.{◌≡◌, ◌≤◌, length, filter, take, MAX_BOOKS, is_of_kind}
use Rattle.book_tables_opening.proofs.keys.are_few_books.Given as goal

-- the books so far are counted, and there are no more than may be
abbrev pub invariant-loop-row : goal.invariant-loop-row
invariant-loop-row l = record {
  counted : l.count ≡ length (filter (is_of_kind 4) (take l.row-index l.rows));
  few : l.count ≤ MAX_BOOKS;
}
