use Rattle.book_office_sync.proofs.Common.{◌≡◌, drop}
use Rattle.book_office_sync.specs.Pages.{last_changed}
use Rattle.book_office_sync.proofs.pages.last_changed.Given as goal

-- the last number of the changes to come, after the last so far, is that of all changes
abbrev pub invariant-loop-change : goal.invariant-loop-change
invariant-loop-change l = last_changed l.number (drop l.change-index l.changes) ≡ last_changed l.before l.changes
