use Rattle.std.proofs.Common.{◌≡◌, length, map}
use Rattle.std.specs.Vec.Iter.{into_iter_items, into_iter_len}
use Rattle.book_office_adopting.specs.TakingOver.{all_inserted}
use Rattle.book_office_copies.specs.Copies.{as_it_is, named_entry}
use Rattle.book_office_copies.proofs.books.books_of.Given as goal

-- the books so far with those to come are all
abbrev pub invariant-loop-one : goal.invariant-loop-one
invariant-loop-one l = record {
  parts : all_inserted as_it_is l.books (map named_entry (into_iter_items l.one-iterator)) ≡ all_inserted as_it_is l.initial.books (map named_entry (into_iter_items l.initial.one-iterator));
  count : into_iter_len l.one-iterator ≡ length (into_iter_items l.one-iterator);
}
