use Rattle.std.proofs.Common.{◌≡◌, ◌++◌, take}
use Rattle.std.specs.Prelude.{string_bytes}
use Rattle.book_policy_warnings.specs.Sentences.{warning_lines}
use Rattle.book_policy_warnings.proofs.warnings.push_lines.Given as goal

-- the lines so far were added
abbrev pub invariant-loop-warning : goal.invariant-loop-warning
invariant-loop-warning l = string_bytes l.text ≡ string_bytes l.fn.text ++ warning_lines (take l.warning-index l.warnings)
