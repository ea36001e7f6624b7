use Rattle.book_office_values.proofs.Common.{◌≡◌, ◌++◌, length}
use Rattle.book_office_values.proofs.FirstOf.{IsWithin}
use Rattle.book_office_values.proofs.collections.number_maps.NumberMap.after.Given as goal

-- the entries so far and those to come are those above the number, and those so far no more than are to be told
abbrev pub invariant-loop-above : goal.invariant-loop-above
invariant-loop-above l = record {
  next : (goal.iterator-loop-above).can_next l.above-iterator;
  finite : (goal.iterator-loop-above).is_finite l.above-iterator;
  parts : l.after ++ l.above-iterator ≡ l.initial.above-iterator;
  within : IsWithin l.fn.at_most (length l.after);
}
