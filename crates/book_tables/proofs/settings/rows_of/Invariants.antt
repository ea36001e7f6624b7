use Rattle.book_tables.proofs.Common.{said, entry_said}
use Rattle.book_tables.proofs.PushedItems.{AreOnTheWay}
use Rattle.book_tables.proofs.settings.rows_of.Given as goal

-- the rows so far and the entries to come are those of the list
abbrev pub invariant-entries : goal.invariant-entries
invariant-entries l = AreOnTheWay said entry_said l.list l.rows.items l.entry-index
