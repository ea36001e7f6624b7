use Rattle.book_office_sync.proofs.Common.{◌≡◌, ◌++◌, length, option_copied}
use Rattle.std.specs.Vec.Iter.{into_iter_items, into_iter_len}
use Rattle.book_office_sync.specs.Limits.{told_items}
use Rattle.book_office_sync.proofs.reports.push_told.Given as goal

-- the items so far and those to come are those before and those of all changes
abbrev pub invariant-loop-change : goal.invariant-loop-change
invariant-loop-change l = record {
  parts : l.items.items ++ told_items l.above l.circle (option_copied l.token) (into_iter_items l.change-iterator) ≡ l.fn.items.items ++ told_items l.above l.circle (option_copied l.token) (into_iter_items l.initial.change-iterator);
  count : into_iter_len l.change-iterator ≡ length (into_iter_items l.change-iterator);
}
