use Rattle.book_tables.proofs.Common.{take}
use Rattle.book_tables.proofs.PairsTold.{AreTold}
use Rattle.book_tables.proofs.members.pairs_of.Given as goal

-- the pairs so far are those of the rows so far
abbrev pub invariant-loop-row : goal.invariant-loop-row
invariant-loop-row l = AreTold l.pairs (take l.row-index l.rows)
