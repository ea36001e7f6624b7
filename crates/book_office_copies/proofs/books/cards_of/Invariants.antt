use Rattle.std.proofs.Common.{◌≡◌, length}
use Rattle.std.specs.Vec.Iter.{into_iter_items, into_iter_len}
use Rattle.book_office_copies.specs.Copies.{cards_in}
use Rattle.book_office_copies.proofs.books.cards_of.Given as goal

-- the cards so far with those to come are those of all
abbrev pub invariant-loop-change : goal.invariant-loop-change
invariant-loop-change l = record {
  parts : cards_in l.cards (into_iter_items l.change-iterator) ≡ cards_in l.initial.cards (into_iter_items l.initial.change-iterator);
  count : into_iter_len l.change-iterator ≡ length (into_iter_items l.change-iterator);
}
