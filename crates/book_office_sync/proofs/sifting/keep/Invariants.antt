use Rattle.book_office_sync.proofs.Common.{◌≡◌, ◌++◌, length}
use Rattle.std.specs.Vec.Iter.{into_iter_items, into_iter_len}
use Rattle.book_office_sync.specs.Sifting.{AppliesAs}
use Rattle.book_office_sync.proofs.sifting.keep.Given as goal

-- what is kept so far, with the entries to come, applies as all of them
abbrev pub invariant-loop-entry : goal.invariant-loop-entry
invariant-loop-entry l = record {
  kept : AppliesAs l.circle (l.initial.kept.items ++ into_iter_items l.initial.entry-iterator) (l.kept.items ++ into_iter_items l.entry-iterator);
  count : into_iter_len l.entry-iterator ≡ length (into_iter_items l.entry-iterator);
}
