use Rattle.book_tables_opening.proofs.Common.{◌≡◌, ◌≤◌, ℕ, List, drop, length, option_and_then, slice_get, first_shown_at}
use Rattle.book_tables_opening.specs.Directories.{place_at}
use Rattle.book_tables_opening.proofs.directories.places_by_path.Given as goal

abbrev pub decreases-loop-place : goal.decreases-loop-place
decreases-loop-place l = l.place

-- the rows from a place on are found by their paths
abbrev pub invariant-loop-place : goal.invariant-loop-place
invariant-loop-place l = record {
  within : l.place ≤ length l.rows;
  found : (path : List ℕ) → option_and_then (λ i. slice_get l.rows i) (place_at l.places path) ≡ first_shown_at (drop l.place l.rows) path;
}
