use Rattle.std.proofs.Common.{◌≡◌, ◌∷◌, take}
use Rattle.book_questions_chains.proofs.climbing.behind.Given as goal

-- the first, and the others so far
abbrev pub invariant-loop-other : goal.invariant-loop-other
invariant-loop-other l = l.copies.items ≡ l.first ∷ take l.other-index l.others
