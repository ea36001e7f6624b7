use Rattle.std.proofs.Common.{ℕ, List, drop, string_bytes}
use Rattle.book_policy_checks.specs.Reports.{AddsFaults}
use Rattle.book_policy_checks.proofs.reports.push_faults.Given as goal

-- with the lines of those to come it has the lines of all
abbrev pub invariant-loop-fault : goal.invariant-loop-fault
invariant-loop-fault l =
    (whole : List ℕ) → AddsFaults (string_bytes l.text) whole (drop l.fault-index l.faults) → AddsFaults (string_bytes l.initial.text) whole l.faults
