use Rattle.book_tables_findings.proofs.Common.{take, AllByRecursion}
use Rattle.book_tables_opening.specs.Opening.{IsMemberRow}
use Rattle.book_tables_findings.proofs.member_rules.broken_member.Given as goal

-- the rows so far are members
abbrev pub invariant-loop-row : goal.invariant-loop-row
invariant-loop-row l = AllByRecursion (IsMemberRow l.directory) (take l.row-index l.members)
