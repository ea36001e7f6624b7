use Rattle.book_questions_audit.proofs.Common.{◌≡◌, flat_map, gathered, take}
use Rattle.book_questions_audit.specs.Lines.{part_blocks}
use Rattle.book_questions_audit.proofs.telling.add_parts.Given as goal

-- the blocks of the parts so far
abbrev pub invariant-loop-part : goal.invariant-loop-part
invariant-loop-part l = l.blocks ≡ gathered l.fn.blocks (flat_map (part_blocks l.wanted) (take l.part-index l.parts))
