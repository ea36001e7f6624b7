use Rattle.std.proofs.Common.{ℕ, ◌+◌, ◌*◌, [], ◌∷◌}
use Rattle.book_questions_chains.proofs.Climbs.{Climbs, fresh, front_weight}
use Rattle.book_questions_chains.proofs.climbing.chains_from.Given as goal

-- the chains so far
abbrev pub invariant-steps : goal.invariant-steps
invariant-steps l = (k : ℕ) × Climbs l.pairs l.principal k l.settled.items l.front.items

abbrev pub decreases-steps : goal.decreases-steps
decreases-steps l = 2 * fresh l.settled.items l.front.items l.pairs + front_weight l.front.items
