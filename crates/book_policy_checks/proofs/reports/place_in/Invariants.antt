use Rattle.std.proofs.Common.{◌≡◌, drop}
use Rattle.book_policy_checks.specs.Reports.{place_in}
use Rattle.book_policy_checks.proofs.reports.place_in.Given as goal

abbrev pub invariant-loop-byte : goal.invariant-loop-byte
invariant-loop-byte l = place_in l.line l.column (drop l.byte-index l.text) ≡ place_in 1 1 l.text
