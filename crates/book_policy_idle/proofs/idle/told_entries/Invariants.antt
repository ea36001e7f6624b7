use Rattle.std.proofs.Common.{take}
use Rattle.book_policy_idle.specs.Told.{AreTold}
use Rattle.book_policy_idle.proofs.idle.told_entries.Given as goal

abbrev pub invariant-loop-index : goal.invariant-loop-index
invariant-loop-index l = AreTold l.policy 0 (take l.index l.entries) l.idle
