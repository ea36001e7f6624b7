use Rattle.book_tables_opening.proofs.Common.{take, AllByRecursion, IsGoneRow}
use Rattle.book_tables_opening.proofs.gone_tests.are_gone.Given as goal

-- the rows so far are removed names
abbrev pub invariant-loop-row : goal.invariant-loop-row
invariant-loop-row l = AllByRecursion (IsGoneRow l.directory) (take l.row-index l.rows)
