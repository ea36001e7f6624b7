use Rattle.std.proofs.Common.{◌≡◌, ℕ, List, length, vec_len}
use Rattle.std.specs.List.Sorted.{IsStrictlySortedBy}
use Rattle.book_lists.specs.Principals.{path_cmp}
use Rattle.book_lists_reach.proofs.Through.{Closes, HasNumbers}
use Rattle.book_lists_reach.proofs.reach.go_through.Given as goal

-- the places so far are gone through
abbrev pub invariant-loop-place : goal.invariant-loop-place
invariant-loop-place l = record {
  len : vec_len l.rows ≡ vec_len l.fn.rows;
  numbers : HasNumbers l.rows.items l.members-inside.words.items;
  closes : (ps : List (List ℕ)) → IsStrictlySortedBy path_cmp ps → length ps ≡ vec_len l.fn.rows → Closes ps l.fn.rows.items l.place l.rows.items;
}
