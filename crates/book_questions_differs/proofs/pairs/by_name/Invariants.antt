use Rattle.book_questions_differs.proofs.Common.{◌≡◌, empty}
use Rattle.std.proofs.Common.{length}
use Rattle.std.specs.Vec.Iter.{into_iter_items, into_iter_len}
use Rattle.book_questions_differs.specs.Pairs.{with_cards}
use Rattle.book_questions_differs.proofs.pairs.by_name.Given as goal

-- the cards so far with those to come are all
abbrev pub invariant-loop-card : goal.invariant-loop-card
invariant-loop-card l = record {
  parts : with_cards l.named (into_iter_items l.card-iterator) ≡ with_cards empty (into_iter_items l.initial.card-iterator);
  count : into_iter_len l.card-iterator ≡ length (into_iter_items l.card-iterator);
}
