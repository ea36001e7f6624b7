use Rattle.book_tables.proofs.Common.{take}
use Rattle.book_tables.specs.Spans.{AreWithin}
use Rattle.book_tables.proofs.spans.span_of.Given as goal

-- the numbers of the rows so far are in the span so far
abbrev pub invariant-rows : goal.invariant-rows
invariant-rows l = AreWithin l.first l.last (take l.row-index l.rows)
