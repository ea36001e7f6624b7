use Rattle.book_tables_opening.proofs.Common.{◌≡◌, take}
use Rattle.book_tables_opening.specs.Opening as keys
use Rattle.book_tables_opening.proofs.keys.list_keys.Given as goal

-- the keys are those of the rows so far
abbrev pub invariant-loop-row : goal.invariant-loop-row
invariant-loop-row l = l.found.items ≡ keys.list_keys (take l.row-index l.entries)
