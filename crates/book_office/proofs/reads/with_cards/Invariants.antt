use Rattle.book_office.proofs.Common.{◌≡◌, ◌++◌, length, into_iter_items, into_iter_len}
use Rattle.book_office.specs.Resources.{changed_in}
use Rattle.book_office.proofs.reads.with_cards.Given as goal

-- the changes so far and those to come are those of the list
abbrev pub invariant-loop-number : goal.invariant-loop-number
invariant-loop-number l = record {
  parts : l.told.items ++ changed_in l.book (into_iter_items l.number-iterator) ≡ changed_in l.book (into_iter_items l.initial.number-iterator);
  count : into_iter_len l.number-iterator ≡ length (into_iter_items l.number-iterator);
}
