use Rattle.std.proofs.Common.{◌≡◌, drop}
use Rattle.book_dumps_restoring.specs.Knowing.{knows_entries}
use Rattle.book_dumps_restoring.proofs.knowing.knows_entries.Given as goal

-- each is known where those to come are
abbrev pub invariant-loop-entry : goal.invariant-loop-entry
invariant-loop-entry l = knows_entries l.standing (drop l.entry-index l.entries) ≡ knows_entries l.standing l.entries
