use Rattle.book_log_denials.proofs.Common.{◌≡◌}
use Rattle.std.proofs.Common.{drop, option_copied}
use Rattle.book_log_denials.specs.Denials.{with_lines}
use Rattle.book_log_denials.proofs.counting.groups_of.Given as goal

-- the groups so far, and then those of the lines that follow
abbrev pub invariant-loop-line : goal.invariant-loop-line
invariant-loop-line l =
    with_lines l.form (option_copied l.since) l.groups (drop l.line-index l.lines) ≡ with_lines l.form (option_copied l.since) l.initial.groups l.lines
