use Rattle.std.proofs.Common.{◌≡◌, take}
use Rattle.book_questions_chains.specs.Chains.{risen}
use Rattle.book_questions_chains.proofs.climbing.risen.Given as goal

-- the chains of the pairs so far
abbrev pub invariant-loop-pair : goal.invariant-loop-pair
invariant-loop-pair l = l.higher.items ≡ risen l.settled l.front (take l.pair-index l.pairs)
