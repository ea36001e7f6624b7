use Rattle.book_dumps.proofs.Common.{◌≡◌, ◌++◌, Ok, List, Office, Reads}
use Rattle.book_dumps.specs.Told.{removed_after}
use Rattle.book_dumps.specs.declared.lines.Removed.{Removed}
use Rattle.book_dumps.proofs.Paging.{numbers_left, to_read}
use Rattle.book_dumps.proofs.reading.read_removed_of.Given as goal

-- the removed names so far and those to be read are all
abbrev pub invariant-loop-next : goal.invariant-loop-next
invariant-loop-next g l = Reads (g.K.Keeper.standing l.fn.keeper) (g.K.Keeper.standing l.keeper) (Ok l.removed)
    (λ (o : Office) (removed : List Removed). removed ++ to_read o l.book l.next ≡ removed_after o l.book 0)

abbrev pub decreases-loop-next : goal.decreases-loop-next
decreases-loop-next g l = numbers_left l.next
