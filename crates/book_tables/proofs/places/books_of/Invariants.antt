use Rattle.book_tables.proofs.Common.{◌≡◌, length, map, into_iter_items, into_iter_len, added, book_told}
use Rattle.book_tables.proofs.places.books_of.Given as goal

-- the books so far with those to come are those of all
abbrev pub invariant-loop-child : goal.invariant-loop-child
invariant-loop-child l = record {
  parts : added l.books (map book_told (into_iter_items l.child-iterator)) ≡ added l.initial.books (map book_told (into_iter_items l.initial.child-iterator));
  count : into_iter_len l.child-iterator ≡ length (into_iter_items l.child-iterator);
}
