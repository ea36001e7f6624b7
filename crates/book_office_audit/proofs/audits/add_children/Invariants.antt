use Rattle.book_office_audit.proofs.Common.{◌≡◌, drop, map, gathered, block_of}
use Rattle.book_office_audit.proofs.audits.add_children.Given as goal

-- the blocks so far with those to come are those with all
abbrev pub invariant-loop-child : goal.invariant-loop-child
invariant-loop-child l = gathered l.blocks (map (block_of l.above) (drop l.child-index l.children)) ≡ gathered l.fn.blocks (map (block_of l.above) l.children)
