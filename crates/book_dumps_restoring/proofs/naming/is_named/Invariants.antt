use Rattle.std.proofs.Common.{◌≡◌, drop}
use Rattle.book_dumps_restoring.specs.Naming.{is_named}
use Rattle.book_dumps_restoring.proofs.naming.is_named.Given as goal

-- it is named where one of the paths to come names it
abbrev pub invariant-loop-path : goal.invariant-loop-path
invariant-loop-path l = is_named (drop l.path-index l.paths) l.book ≡ is_named l.paths l.book
