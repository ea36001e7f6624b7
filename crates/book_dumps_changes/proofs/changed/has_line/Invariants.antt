use Rattle.std.proofs.Common.{◌≡◌, drop}
use Rattle.book_dumps_changes.specs.Changing.{has_principal}
use Rattle.book_dumps_changes.proofs.changed.has_line.Given as goal

-- the principal has a line where one of those to come is its
abbrev pub invariant-loop-line : goal.invariant-loop-line
invariant-loop-line l = has_principal (drop l.line-index l.lines) l.principal ≡ has_principal l.lines l.principal
