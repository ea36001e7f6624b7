use Rattle.std.proofs.Common.{◌≡◌, ◌++◌, length}
use Rattle.std.specs.String.{string_bytes}
use Rattle.std.specs.Vec.Iter.{into_iter_items, into_iter_len}
use Rattle.book_dumps_changes.specs.Leavers.{entries_without, told_entries}
use Rattle.book_dumps_changes.proofs.leavers.release_entries.Given as goal

-- what became of the entries so far and what becomes of those to come is what becomes of all, and so is what is told
abbrev pub invariant-loop-entry : goal.invariant-loop-entry
invariant-loop-entry l = record {
  parts : l.after ++ entries_without l.person (into_iter_items l.entry-iterator) ≡ entries_without l.person (into_iter_items l.initial.entry-iterator);
  told : string_bytes l.told ++ told_entries l.person l.path l.protected (into_iter_items l.entry-iterator)
      ≡ string_bytes l.initial.told ++ told_entries l.person l.path l.protected (into_iter_items l.initial.entry-iterator);
  count : into_iter_len l.entry-iterator ≡ length (into_iter_items l.entry-iterator);
}
