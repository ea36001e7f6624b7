use Rattle.book_lists_reach.proofs.Through.{HasNumbersBelow}
use Rattle.book_lists_reach.proofs.closing.numbers_of.Given as goal

-- the numbers of the rows so far
abbrev pub invariant-loop-row : goal.invariant-loop-row
invariant-loop-row l = HasNumbersBelow l.row-index l.rows l.numbers
