use Rattle.std.proofs.Common.{◌≡◌, drop}
use Rattle.std.specs.List.{list_all}
use Rattle.book_dumps_restoring.specs.Knowing.{has_parent, have_parents}
use Rattle.book_dumps_restoring.proofs.knowing.check_parents.Given as goal

-- each card has its book where those to come have
abbrev pub invariant-loop-path : goal.invariant-loop-path
invariant-loop-path l = list_all (has_parent l.standing l.paths) (drop l.path-index l.paths) ≡ have_parents l.standing l.paths
