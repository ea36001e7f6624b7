use Rattle.book_office_audit.proofs.Common.{◌≡◌, take, flat_map, gathered, shelf_blocks}
use Rattle.book_office_audit.proofs.audits.add_shelves.Given as goal

-- the blocks of the books so far
abbrev pub invariant-loop-shelf : goal.invariant-loop-shelf
invariant-loop-shelf l = l.blocks ≡ gathered l.fn.blocks (flat_map shelf_blocks (take l.shelf-index l.shelves))
