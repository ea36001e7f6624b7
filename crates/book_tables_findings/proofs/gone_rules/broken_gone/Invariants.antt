use Rattle.book_tables_findings.proofs.Common.{take, AllByRecursion}
use Rattle.book_tables_opening.specs.Opening.{IsGoneRow}
use Rattle.book_tables_findings.proofs.gone_rules.broken_gone.Given as goal

-- the rows so far are removed names
abbrev pub invariant-loop-row : goal.invariant-loop-row
invariant-loop-row l = AllByRecursion (IsGoneRow l.directory) (take l.row-index l.gone)
