use Rattle.book_dumps.proofs.Common.{◌≡◌, ◌++◌, drop}
use Rattle.book_dumps.specs.Told.{removed_among}
use Rattle.book_dumps.proofs.reading.add_removed.Given as goal

-- the removed names so far with those to come are all
abbrev pub invariant-loop-change : goal.invariant-loop-change
invariant-loop-change l = l.removed ++ removed_among (drop l.change-index l.changes) ≡ l.fn.removed ++ removed_among l.changes
