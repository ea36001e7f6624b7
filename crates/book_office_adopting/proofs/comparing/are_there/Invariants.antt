use Rattle.book_office_adopting.proofs.Common.{◌≡◌, length, true, AllByRecursion, Membership}
use Rattle.std.specs.FinSet as set
use Rattle.std.specs.Vec.Iter.{into_iter_items, into_iter_len}
use Rattle.book_office_adopting.proofs.comparing.are_there.Given as goal

-- the pairs to come are there exactly where all are
abbrev pub invariant-loop-pair : goal.invariant-loop-pair
invariant-loop-pair l = record {
  there : AllByRecursion (λ (q : Membership). set.contains l.pairs q ≡ true) (into_iter_items l.pair-iterator)
      → AllByRecursion (λ (q : Membership). set.contains l.pairs q ≡ true) (into_iter_items l.initial.pair-iterator);
  all : AllByRecursion (λ (q : Membership). set.contains l.pairs q ≡ true) (into_iter_items l.initial.pair-iterator)
      → AllByRecursion (λ (q : Membership). set.contains l.pairs q ≡ true) (into_iter_items l.pair-iterator);
  count : into_iter_len l.pair-iterator ≡ length (into_iter_items l.pair-iterator);
}
