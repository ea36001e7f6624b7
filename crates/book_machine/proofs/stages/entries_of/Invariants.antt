use Rattle.book_machine.proofs.Common.{◌≡◌, ◌++◌, length, entries_of}
use Rattle.std.specs.Vec.Iter.{into_iter_items, into_iter_len}
use Rattle.book_machine.proofs.stages.entries_of.Given as goal

-- the entries so far and those to come are those of the whole list
abbrev pub invariant-loop-submitted : goal.invariant-loop-submitted
invariant-loop-submitted l = record {
  entries : l.entries.items ++ entries_of (into_iter_items l.submitted-iterator) ≡ entries_of (into_iter_items l.initial.submitted-iterator);
  count : into_iter_len l.submitted-iterator ≡ length (into_iter_items l.submitted-iterator);
}
