use Rattle.book_office.proofs.Common.{◌≡◌, ◌++◌, length, flat_map, into_iter_items, into_iter_len}
use Rattle.book_office.specs.Levels.{protected_entries, own_entries}
use Rattle.book_office.proofs.views.effective_entries.Given as goal

-- the entries so far and those to come are those of all levels
abbrev pub invariant-loop-level : goal.invariant-loop-level
invariant-loop-level l = record {
  protected : l.entries.items ++ flat_map protected_entries (into_iter_items l.level-iterator)
      ≡ flat_map protected_entries (into_iter_items l.initial.level-iterator);
  own : l.own_entries.items ++ flat_map own_entries (into_iter_items l.level-iterator)
      ≡ flat_map own_entries (into_iter_items l.initial.level-iterator);
  count : into_iter_len l.level-iterator ≡ length (into_iter_items l.level-iterator);
}
