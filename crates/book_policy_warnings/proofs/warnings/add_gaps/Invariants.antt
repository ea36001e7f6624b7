use Rattle.std.proofs.Common.{◌≡◌, ◌++◌}
use Rattle.book_policy_warnings.specs.Warnings.{gap_warnings}
use Rattle.book_policy_warnings.proofs.warnings.add_gaps.Given as goal

abbrev pub invariant-loop-gap : goal.invariant-loop-gap
invariant-loop-gap l = l.warnings ≡ l.fn.warnings ++ gap_warnings l.yielded
