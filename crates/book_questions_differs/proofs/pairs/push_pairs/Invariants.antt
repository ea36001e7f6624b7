use Rattle.book_questions_differs.proofs.Common.{◌≡◌, ◌++◌}
use Rattle.std.proofs.Common.{length}
use Rattle.std.specs.Vec.Iter.{into_iter_items, into_iter_len}
use Rattle.book_questions_differs.specs.Pairs.{pairs_with}
use Rattle.book_questions_differs.proofs.pairs.push_pairs.Given as goal

-- the pairs so far with those of the cards to come are all
abbrev pub invariant-loop-card : goal.invariant-loop-card
invariant-loop-card l = record {
  parts : l.pairs.items ++ pairs_with l.others (into_iter_items l.card-iterator) ≡ l.fn.pairs.items ++ pairs_with l.initial.others (into_iter_items l.initial.card-iterator);
  count : into_iter_len l.card-iterator ≡ length (into_iter_items l.card-iterator);
}
