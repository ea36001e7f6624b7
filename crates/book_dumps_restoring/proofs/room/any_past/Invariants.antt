use Rattle.std.proofs.Common.{◌≡◌, drop}
use Rattle.std.specs.List.{list_any}
use Rattle.book_dumps_restoring.specs.Restoring.{is_past_line}
use Rattle.book_dumps_restoring.proofs.room.any_past.Given as goal

-- a number is past the last where one of those to come is
abbrev pub invariant-loop-line : goal.invariant-loop-line
invariant-loop-line l = list_any is_past_line (drop l.line-index l.lines) ≡ list_any is_past_line l.lines
