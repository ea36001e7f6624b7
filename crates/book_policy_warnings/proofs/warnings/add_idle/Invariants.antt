use Rattle.std.proofs.Common.{◌≡◌, ◌++◌}
use Rattle.book_policy_warnings.specs.Warnings.{idle_warnings}
use Rattle.book_policy_warnings.proofs.warnings.add_idle.Given as goal

abbrev pub invariant-loop-entry : goal.invariant-loop-entry
invariant-loop-entry l = l.warnings ≡ l.fn.warnings ++ idle_warnings l.yielded
