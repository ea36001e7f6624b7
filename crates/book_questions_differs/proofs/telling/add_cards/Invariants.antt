use Rattle.book_questions_differs.proofs.Common.{◌≡◌, drop, gathered, map, take}
use Rattle.book_questions_differs.specs.Pairs.{classes_after, classes_of}
use Rattle.book_questions_differs.specs.Lines.{class_block}
use Rattle.book_questions_differs.proofs.telling.add_cards.Given as goal

-- the blocks so far with those to come are those with all
abbrev pub invariant-loop-i : goal.invariant-loop-i
invariant-loop-i l = gathered l.blocks (map (class_block l.parties l.spot) (classes_after l.pairs (take l.i l.pairs) (drop l.i l.pairs)))
    ≡ gathered l.fn.blocks (map (class_block l.parties l.spot) (classes_of l.pairs))
