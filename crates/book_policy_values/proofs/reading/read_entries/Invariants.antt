use Rattle.book_policy_values.proofs.Common.{◌≡◌, ◌++◌, true, false, length, map, into_iter_items, into_iter_len, entry_of, EntryFits, EntriesFit, with_entries}
use Rattle.book_policy_values.proofs.reading.read_entries.Given as goal

-- the entries to come fit after those so far exactly where all fit, and the lists with those to come are those of all
abbrev pub invariant-loop-part : goal.invariant-loop-part
invariant-loop-part l = record {
  fits : EntriesFit (EntryFits l.persons l.groups l.books) l.read.protected l.read.own (into_iter_items l.part-iterator)
      → EntriesFit (EntryFits l.persons l.groups l.books) l.initial.read.protected l.initial.read.own (into_iter_items l.initial.part-iterator);
  fit : EntriesFit (EntryFits l.persons l.groups l.books) l.initial.read.protected l.initial.read.own (into_iter_items l.initial.part-iterator)
      → EntriesFit (EntryFits l.persons l.groups l.books) l.read.protected l.read.own (into_iter_items l.part-iterator);
  entries : l.read.entries ++ map entry_of (into_iter_items l.part-iterator) ≡ l.initial.read.entries ++ map entry_of (into_iter_items l.initial.part-iterator);
  protected : with_entries true l.read.protected (map entry_of (into_iter_items l.part-iterator))
      ≡ with_entries true l.initial.read.protected (map entry_of (into_iter_items l.initial.part-iterator));
  own : with_entries false l.read.own (map entry_of (into_iter_items l.part-iterator))
      ≡ with_entries false l.initial.read.own (map entry_of (into_iter_items l.initial.part-iterator));
  count : into_iter_len l.part-iterator ≡ length (into_iter_items l.part-iterator);
}
