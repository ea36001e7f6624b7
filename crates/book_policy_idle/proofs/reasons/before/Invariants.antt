use Rattle.std.proofs.Common.{◌≡◌, take}
use Rattle.book_policy_idle.specs.Reasons.{before}
use Rattle.book_policy_idle.proofs.reasons.before.Given as goal

abbrev pub invariant-loop-place : goal.invariant-loop-place
invariant-loop-place l = before l.index (take l.place l.list) ≡ take l.place l.list
