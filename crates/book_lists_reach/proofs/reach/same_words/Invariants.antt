use Rattle.std.proofs.Common.{◌≡◌, ◌<◌, ℕ, [], get_or}
use Rattle.book_lists_reach.proofs.reach.same_words.Given as goal

-- the rows so far have the same words
abbrev pub invariant-loop-i : goal.invariant-loop-i
invariant-loop-i l = (k : ℕ) → k < l.i → get_or l.rows k [] ≡ get_or l.others k []
