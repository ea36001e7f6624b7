use Rattle.book_lists.proofs.Common.{◌≡◌, ◌<◌, ℕ, Some, slice_get, Entry}
use Rattle.book_lists.specs.ListEdits.{Clashes}
use Rattle.book_lists.proofs.list_edits.any_clashes.Given as goal

-- no earlier entry clashes
abbrev pub invariant-loop-entry : goal.invariant-loop-entry
invariant-loop-entry l = (k : ℕ) (earlier : Entry) → k < l.entry-index → slice_get l.protected k ≡ Some earlier → Clashes l.submitted earlier → ⊥
