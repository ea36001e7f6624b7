use Rattle.book_tables_findings.proofs.Common.{take, AllByRecursion}
use Rattle.book_tables_opening.specs.Opening.{IsEntryRow}
use Rattle.book_tables_findings.proofs.entry_rules.broken_entry.Given as goal

-- the rows so far are entries
abbrev pub invariant-loop-row : goal.invariant-loop-row
invariant-loop-row l = AllByRecursion (IsEntryRow l.directory) (take l.row-index l.entries)
