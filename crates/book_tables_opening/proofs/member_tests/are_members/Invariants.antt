use Rattle.book_tables_opening.proofs.Common.{take, AllByRecursion, IsMemberRow}
use Rattle.book_tables_opening.proofs.member_tests.are_members.Given as goal

-- the rows so far are members
abbrev pub invariant-loop-row : goal.invariant-loop-row
invariant-loop-row l = AllByRecursion (IsMemberRow l.directory) (take l.row-index l.rows)
