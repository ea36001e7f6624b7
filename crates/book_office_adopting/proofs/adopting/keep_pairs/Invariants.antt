use Rattle.book_office_adopting.proofs.Common.{◌≡◌, length, kept_pairs}
use Rattle.std.specs.Vec.Iter.{into_iter_items, into_iter_len}
use Rattle.book_office_adopting.proofs.adopting.keep_pairs.Given as goal

-- the pairs so far with those to come are those with all
abbrev pub invariant-loop-pair : goal.invariant-loop-pair
invariant-loop-pair l = record {
  parts : kept_pairs l.policy l.pairs (into_iter_items l.pair-iterator) ≡ kept_pairs l.policy l.initial.pairs (into_iter_items l.initial.pair-iterator);
  count : into_iter_len l.pair-iterator ≡ length (into_iter_items l.pair-iterator);
}
