use Rattle.book_tables_opening.proofs.Common.{◌≡◌, take}
use Rattle.book_tables_opening.specs.Opening as keys
use Rattle.book_tables_opening.proofs.keys.group_keys.Given as goal

-- the keys are those of the rows so far
abbrev pub invariant-loop-row : goal.invariant-loop-row
invariant-loop-row l = l.found.items ≡ keys.group_keys l.directory (take l.row-index l.members)
