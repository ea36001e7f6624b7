use Rattle.std.proofs.Common.{◌≡◌, drop}
use Rattle.book_dumps_restoring.specs.Comparing.{any_differs}
use Rattle.book_dumps_restoring.specs.Naming.{wanted}
use Rattle.book_dumps_restoring.proofs.comparing.any_differs.Given as goal

-- access is another one where it is with a line to come
abbrev pub invariant-loop-line : goal.invariant-loop-line
invariant-loop-line l = any_differs l.standing (wanted (drop l.line-index l.lines) l.paths) ≡ any_differs l.standing (wanted l.lines l.paths)
