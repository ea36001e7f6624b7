use Rattle.std.proofs.Common.{◌≡◌, length, map}
use Rattle.std.specs.Vec.Iter.{into_iter_items, into_iter_len}
use Rattle.book_office_adopting.specs.TakingOver.{all_inserted}
use Rattle.book_office_copies.specs.Copies.{as_it_is, listed_place}
use Rattle.book_office_copies.proofs.places.principals_of.Given as goal

-- those so far with those to come are all
abbrev pub invariant-loop-one : goal.invariant-loop-one
invariant-loop-one l = record {
  parts : all_inserted as_it_is l.principals (map listed_place (into_iter_items l.one-iterator)) ≡ all_inserted as_it_is l.initial.principals (map listed_place (into_iter_items l.initial.one-iterator));
  count : into_iter_len l.one-iterator ≡ length (into_iter_items l.one-iterator);
}
