use Rattle.std.proofs.Common.{take}
use Rattle.std.specs.Prelude.{All}
use Rattle.book_policy_idle.specs.Reasons.{IsBehindAt}
use Rattle.book_policy_idle.specs.declared.in_force.Placed.{Placed}
use Rattle.book_policy_idle.proofs.reasons.first_ahead.Given as goal

abbrev pub invariant-loop-placed : goal.invariant-loop-placed
invariant-loop-placed l = All (λ (x : Placed). IsBehindAt l.policy l.entry x.index → ⊥) (take l.placed-index l.list)
