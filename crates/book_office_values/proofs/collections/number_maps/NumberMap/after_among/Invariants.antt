use Rattle.book_office_values.proofs.Common.{◌≡◌, ◌++◌, length, filter, get}
use Rattle.std.proofs.Common.{is_some}
use Rattle.book_office_values.specs.Changes.{Change}
use Rattle.book_office_values.proofs.FirstOf.{IsWithin}
use Rattle.book_office_values.proofs.collections.number_maps.NumberMap.after_among.Given as goal

-- the entries so far and those to come whose names are there are those above the number whose names are there, and those so
-- far no more than are to be told
abbrev pub invariant-loop-above : goal.invariant-loop-above
invariant-loop-above g l = record {
  next : (goal.iterator-loop-above g).can_next l.above-iterator;
  finite : (goal.iterator-loop-above g).is_finite l.above-iterator;
  parts : l.after ++ filter (λ (c : Change). is_some (get l.fn.names c.1)) l.above-iterator
      ≡ filter (λ (c : Change). is_some (get l.fn.names c.1)) l.initial.above-iterator;
  within : IsWithin l.fn.at_most (length l.after);
}
