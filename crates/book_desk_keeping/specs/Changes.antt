-- What changes make of a dump, one after the other (own profile).
use Rattle.std.specs.Prelude.{List, [], ◌++◌}
use Rattle.std.specs.List.{fold}
use Rattle.book_desk_keeping.specs.declared.changes.Change.{Change}
use Rattle.book_desk_keeping.specs.declared.changes.Change.TheVariants.{OwnBy, Without, ForgetRemoved, NewEpoch}
use Rattle.book_dumps_changes.specs.Epochs.{with_epoch}
use Rattle.book_dumps_changes.specs.Leavers.{without_person}
use Rattle.book_dumps_changes.specs.Owners.{with_owner}
use Rattle.book_dumps_changes.specs.Removals.{without_removed}
use Rattle.book_dumps_changes.specs.declared.changed.Changed.{Changed}
use Rattle.book_dumps_reading.specs.declared.dumped.Dumped.{Dumped}

-- one change
abbrev pub changed_by : Change → Dumped → Changed
changed_by (OwnBy from to at) d = with_owner from to at d
changed_by (Without person heir) d = without_person person heir d
changed_by ForgetRemoved d = without_removed d
changed_by (NewEpoch above) d = with_epoch above d

-- one more; what it tells is told behind what was told
abbrev pub changed_further : Changed → Change → Changed
changed_further made change = record {
  dumped = (changed_by change made.dumped).dumped;
  told = made.told ++ (changed_by change made.dumped).told;
}

-- all of them
abbrev pub changed_by_all : List Change → Dumped → Changed
changed_by_all changes d = fold changed_further (record { dumped = d; told = [] }) changes
