use Rattle.book_lists.proofs.Common.{◌≡◌, ◌<◌, ℕ, Some, slice_get}
use Rattle.book_lists.specs.declared.submitted.Submitted.{Submitted}
use Rattle.book_lists.specs.ListEdits.{IsFaultless}
use Rattle.book_lists.proofs.list_edits.check_edit.Given as goal

-- no earlier entry has a fault
abbrev pub invariant-loop-entry : goal.invariant-loop-entry
invariant-loop-entry l = (k : ℕ) (earlier : Submitted) → k < l.entry-index → slice_get l.submitted k ≡ Some earlier → IsFaultless l.protected earlier
