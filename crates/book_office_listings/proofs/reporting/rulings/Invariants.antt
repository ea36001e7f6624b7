use Rattle.book_office_listings.proofs.Common.{take, AllZip, all_leaves, effective_of}
use Rattle.book_office_listings.specs.Scanning.{IsRuledBy}
use Rattle.book_office_listings.proofs.reporting.rulings.Given as goal

-- the rulings on the leaves so far
abbrev pub invariant-loop-leaf : goal.invariant-loop-leaf
invariant-loop-leaf l = AllZip (IsRuledBy (effective_of l.fn.levels) l.deciders) (take l.leaf-index all_leaves) l.rulings.items
