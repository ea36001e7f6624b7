use Rattle.book_office.proofs.Common.{◌≡◌, ◌++◌, length, map, into_iter_items, into_iter_len}
use Rattle.book_office.specs.Levels.{standing_at}
use Rattle.book_office.proofs.views.push_entries.Given as goal

-- the entries so far and those to come are those before and those of the list
abbrev pub invariant-loop-entry : goal.invariant-loop-entry
invariant-loop-entry l = record {
  parts : l.entries.items ++ map (standing_at l.fn.path l.protected) (into_iter_items l.entry-iterator)
      ≡ l.initial.entries.items ++ map (standing_at l.fn.path l.protected) (into_iter_items l.initial.entry-iterator);
  count : into_iter_len l.entry-iterator ≡ length (into_iter_items l.entry-iterator);
}
