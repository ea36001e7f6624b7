use Rattle.book_tables_opening.proofs.Common.{take, AllByRecursion, IsEntryRow}
use Rattle.book_tables_opening.proofs.entry_tests.are_entry_rows.Given as goal

-- the rows so far are entries
abbrev pub invariant-loop-row : goal.invariant-loop-row
invariant-loop-row l = AllByRecursion (IsEntryRow l.directory) (take l.row-index l.rows)
