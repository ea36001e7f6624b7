use Rattle.std.proofs.Common.{◌≡◌, ◌++◌}
use Rattle.book_policy_warnings.specs.Warnings.{gain_warnings}
use Rattle.book_policy_warnings.proofs.warnings.add_gains.Given as goal

abbrev pub invariant-loop-gain : goal.invariant-loop-gain
invariant-loop-gain l = l.warnings ≡ l.fn.warnings ++ gain_warnings l.yielded
