use Rattle.std.proofs.Common.{◌≡◌, ℕ, ◌≤◌, length, slice_index}
use Rattle.book_lists_reach.proofs.bits.Bits.grow.Given as goal

-- the words that are added have no number
abbrev pub invariant-loop-word : goal.invariant-loop-word
invariant-loop-word l = record {
  long : l._word ≤ length l.self-inside.words.items;
  same : (i : ℕ) → slice_index l.self-inside.words.items i ≡ slice_index l.fn.self i;
}
