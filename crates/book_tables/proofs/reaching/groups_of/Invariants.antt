use Rattle.book_tables.proofs.Common.{take}
use Rattle.book_tables.specs.Reach.{AreGroupsTold}
use Rattle.book_tables.proofs.reaching.groups_of.Given as goal

-- the groups so far are those that the rows so far tell
abbrev pub invariant-rows : goal.invariant-rows
invariant-rows l = AreGroupsTold (take l.row-index l.fn.rows) l.groups.items
