use Rattle.std.proofs.Common.{◌≡◌, drop}
use Rattle.book_dumps_restoring.specs.Knowing.{knows_each}
use Rattle.book_dumps_restoring.specs.Naming.{wanted}
use Rattle.book_dumps_restoring.proofs.knowing.check_known.Given as goal

-- each is known where those of the lines to come are
abbrev pub invariant-loop-line : goal.invariant-loop-line
invariant-loop-line l = knows_each l.standing (wanted (drop l.line-index l.lines) l.paths) ≡ knows_each l.standing (wanted l.lines l.paths)
