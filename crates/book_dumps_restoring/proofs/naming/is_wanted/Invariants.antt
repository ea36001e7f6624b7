use Rattle.std.proofs.Common.{◌≡◌, drop}
use Rattle.book_dumps_restoring.specs.Naming.{is_wanted}
use Rattle.book_dumps_restoring.proofs.naming.is_wanted.Given as goal

-- it is wanted where one of the paths to come names it
abbrev pub invariant-loop-path : goal.invariant-loop-path
invariant-loop-path l = is_wanted (drop l.path-index l.paths) l.at ≡ is_wanted l.paths l.at
