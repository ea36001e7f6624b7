use Rattle.book_policy_values.proofs.Common.{◌≡◌, length, map, into_iter_items, into_iter_len, added, named_book, CanAdd, BookFits}
use Rattle.book_policy_values.proofs.reading.read_books.Given as goal

-- the parts to come fit after those so far exactly where all fit, and the map with those to come is that of all
abbrev pub invariant-loop-part : goal.invariant-loop-part
invariant-loop-part l = record {
  fits : CanAdd (BookFits l.persons l.groups) named_book l.books (into_iter_items l.part-iterator)
      → CanAdd (BookFits l.persons l.groups) named_book l.initial.books (into_iter_items l.initial.part-iterator);
  fit : CanAdd (BookFits l.persons l.groups) named_book l.initial.books (into_iter_items l.initial.part-iterator)
      → CanAdd (BookFits l.persons l.groups) named_book l.books (into_iter_items l.part-iterator);
  parts : added l.books (map named_book (into_iter_items l.part-iterator)) ≡ added l.initial.books (map named_book (into_iter_items l.initial.part-iterator));
  count : into_iter_len l.part-iterator ≡ length (into_iter_items l.part-iterator);
}
