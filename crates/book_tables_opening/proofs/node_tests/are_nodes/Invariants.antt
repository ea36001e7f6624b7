use Rattle.book_tables_opening.proofs.Common.{take, AllByRecursion}
use Rattle.book_tables_opening.specs.Opening.{IsTextlessRow}
use Rattle.book_tables_opening.proofs.node_tests.are_nodes.Given as goal

-- the rows so far are nodes
abbrev pub invariant-loop-row : goal.invariant-loop-row
invariant-loop-row l = AllByRecursion (IsTextlessRow l.directory) (take l.row-index l.rows)
