use Rattle.book_tables.proofs.Common.{take}
use Rattle.book_tables.proofs.RowsOfPairs.{AreListed}
use Rattle.book_tables.proofs.settling.pairs_told.Given as goal

-- the pairs so far are those of the rows so far
abbrev pub invariant-rows : goal.invariant-rows
invariant-rows l = AreListed l.pairs.items (take l.row-index l.fn.rows)
