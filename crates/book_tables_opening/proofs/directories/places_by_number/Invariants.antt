use Rattle.book_tables_opening.proofs.Common.{◌≡◌, ◌≤◌, ℤ, drop, length, option_and_then, slice_get, int_cmp, node_numbered}
use Rattle.std.specs.BTreeMap.{get}
use Rattle.book_tables_opening.proofs.directories.places_by_number.Given as goal

abbrev pub decreases-loop-place : goal.decreases-loop-place
decreases-loop-place l = l.place

-- the rows from a place on are found by their numbers
abbrev pub invariant-loop-place : goal.invariant-loop-place
invariant-loop-place l = record {
  within : l.place ≤ length l.rows;
  found : (id : ℤ) → option_and_then (λ i. slice_get l.rows i) (get int_cmp l.places id) ≡ node_numbered (drop l.place l.rows) id;
}
