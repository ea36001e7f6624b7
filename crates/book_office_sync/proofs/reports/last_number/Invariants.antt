use Rattle.book_office_sync.proofs.Common.{◌≡◌, drop}
use Rattle.book_office_sync.specs.Limits.{last_told}
use Rattle.book_office_sync.proofs.reports.last_number.Given as goal

-- the last number of the items to come, after the last so far, is that of all items
abbrev pub invariant-loop-item : goal.invariant-loop-item
invariant-loop-item l = last_told l.number (drop l.item-index l.items) ≡ last_told l.otherwise l.items
