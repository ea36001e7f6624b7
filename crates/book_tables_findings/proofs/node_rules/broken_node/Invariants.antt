use Rattle.book_tables_findings.proofs.Common.{take, AllByRecursion}
use Rattle.book_tables_opening.specs.Opening.{IsTextlessRow}
use Rattle.book_tables_findings.proofs.node_rules.broken_node.Given as goal

-- the rows so far are nodes
abbrev pub invariant-loop-row : goal.invariant-loop-row
invariant-loop-row l = AllByRecursion (IsTextlessRow l.directory) (take l.row-index l.rows)
