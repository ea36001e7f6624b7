use Rattle.std.proofs.Common.{◌≡◌, drop}
use Rattle.book_policy_idle.specs.Reasons.{order_at}
use Rattle.book_policy_idle.proofs.reasons.order_at.Given as goal

abbrev pub invariant-loop-path : goal.invariant-loop-path
invariant-loop-path l = order_at l.entries l.at l.places ≡ order_at l.entries l.at (drop l.path-index l.places)
