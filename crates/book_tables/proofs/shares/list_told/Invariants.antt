use Rattle.book_tables.proofs.Common.{◌≡◌, take, list_among}
use Rattle.book_tables.proofs.shares.list_told.Given as goal

-- the entries so far are those of the list among the rows so far
abbrev pub invariant-loop-row : goal.invariant-loop-row
invariant-loop-row l = l.list.items ≡ list_among l.protected (take l.row-index l.entries)
