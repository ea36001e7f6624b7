use Rattle.book_tables_opening.proofs.Common.{take, AllByRecursion, IsWithinBook}
use Rattle.book_tables_opening.proofs.keys.are_within.Given as goal

-- the keys so far are within their books
abbrev pub invariant-loop-key : goal.invariant-loop-key
invariant-loop-key l = AllByRecursion (IsWithinBook l.directory) (take l.key-index l.found)
