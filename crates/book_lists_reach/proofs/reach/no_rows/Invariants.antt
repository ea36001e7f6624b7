use Rattle.std.proofs.Common.{◌≡◌, ℕ, [], vec_len, slice_index_or}
use Rattle.book_lists_reach.proofs.reach.no_rows.Given as goal

-- no row has a word
abbrev pub invariant-loop-row : goal.invariant-loop-row
invariant-loop-row l = record {
  len : vec_len l.rows ≡ l._row;
  none : (i : ℕ) → slice_index_or l.rows.items i [] ≡ [];
}
