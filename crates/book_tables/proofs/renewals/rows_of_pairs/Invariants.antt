use Rattle.book_tables.proofs.Common.{map, take}
use Rattle.book_tables_rows.specs.Reach.{pair_said}
use Rattle.book_tables.proofs.RowsOfPairs.{AreRowsOf}
use Rattle.book_tables.proofs.renewals.rows_of_pairs.Given as goal

-- the rows so far are those of the pairs so far
abbrev pub invariant-pairs : goal.invariant-pairs
invariant-pairs l = AreRowsOf (take l.pair-index l.list) (map pair_said l.rows.items)
