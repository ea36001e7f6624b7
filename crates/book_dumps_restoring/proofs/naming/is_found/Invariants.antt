use Rattle.std.proofs.Common.{◌≡◌, drop}
use Rattle.book_dumps_restoring.specs.Naming.{is_found}
use Rattle.book_dumps_restoring.proofs.naming.is_found.Given as goal

-- it is found where it is among the lines to come
abbrev pub invariant-loop-line : goal.invariant-loop-line
invariant-loop-line l = is_found (drop l.line-index l.lines) l.path ≡ is_found l.lines l.path
