use Rattle.book_policy.proofs.Common.{◌≡◌, ◌++◌, length, map, AllByRecursion, entry_part}
use Rattle.std.specs.Vec.Iter.{into_iter_items, into_iter_len}
use Rattle.book_policy.specs.Passes.{HasPrivileges, IsReadable}
use Rattle.book_policy.proofs.entries.entry_parts.Given as goal

-- the parts so far and those to come are those of all the entries
abbrev pub invariant-loop-entry : goal.invariant-loop-entry
invariant-loop-entry l = record {
  fits : AllByRecursion HasPrivileges (into_iter_items l.entry-iterator) → AllByRecursion HasPrivileges (into_iter_items l.initial.entry-iterator);
  fit : AllByRecursion IsReadable (into_iter_items l.initial.entry-iterator) → AllByRecursion IsReadable (into_iter_items l.entry-iterator);
  parts : l.parts.items ++ map entry_part (into_iter_items l.entry-iterator) ≡ l.initial.parts.items ++ map entry_part (into_iter_items l.initial.entry-iterator);
  count : into_iter_len l.entry-iterator ≡ length (into_iter_items l.entry-iterator);
}
