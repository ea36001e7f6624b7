use Rattle.std.proofs.Common.{◌≡◌, ◌++◌}
use Rattle.book_policy_warnings.specs.Warnings.{opening_warnings}
use Rattle.book_policy_warnings.proofs.warnings.add_openings.Given as goal

abbrev pub invariant-loop-opening : goal.invariant-loop-opening
invariant-loop-opening l = l.warnings ≡ l.fn.warnings ++ opening_warnings l.yielded
