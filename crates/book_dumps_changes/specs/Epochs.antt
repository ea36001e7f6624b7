-- A new epoch, above each that was.
use Rattle.std.specs.Prelude.{ℕ, ◌+◌, ◌^◌, max, List, ◌++◌, codes, decimal, Option, Some, None}
use Rattle.book_dumps_reading.specs.declared.dumped.Dumped.{Dumped}
use Rattle.book_dumps_changes.specs.declared.changed.Changed.{Changed}

-- the larger of two epochs, if there are two
abbrev pub at_least : Option ℕ → ℕ → ℕ
at_least None epoch = epoch
at_least (Some above) epoch = max epoch above

-- the epoch, or one that is given where it is larger, and 2^20
abbrev pub renewed : Option ℕ → ℕ → ℕ
renewed above epoch = at_least above epoch + 2 ^ 20

-- epoch OLD -> NEW
abbrev pub epoch_told : ℕ → ℕ → List ℕ
epoch_told old new = codes "epoch " ++ (decimal old ++ (codes " -> " ++ (decimal new ++ codes "\n")))

-- the epoch is the new one; all else is as it was
abbrev pub with_epoch : Option ℕ → Dumped → Changed
with_epoch above dumped = record {
  dumped = record { epoch = renewed above dumped.epoch; lines = dumped.lines };
  told = epoch_told dumped.epoch (renewed above dumped.epoch);
}
