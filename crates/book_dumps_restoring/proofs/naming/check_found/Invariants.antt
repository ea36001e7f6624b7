use Rattle.std.proofs.Common.{◌≡◌, drop}
use Rattle.book_dumps_restoring.specs.Naming.{are_found}
use Rattle.book_dumps_restoring.proofs.naming.check_found.Given as goal

-- all are found where those to come are
abbrev pub invariant-loop-path : goal.invariant-loop-path
invariant-loop-path l = are_found l.lines (drop l.path-index l.paths) ≡ are_found l.lines l.paths
