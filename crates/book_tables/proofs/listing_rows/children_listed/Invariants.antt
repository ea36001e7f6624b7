use Rattle.book_tables.proofs.Common.{◌≡◌, map, take, DoNotFall, child_among}
use Rattle.book_tables.proofs.listing_rows.children_listed.Given as goal

-- the children so far are those of the rows so far
abbrev pub invariant-children : goal.invariant-children
invariant-children l = DoNotFall l.entries → l.children.items ≡ map (child_among l.entries l.front) (take l.row-index l.rows)
