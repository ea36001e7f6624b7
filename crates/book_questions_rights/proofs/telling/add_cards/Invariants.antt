use Rattle.book_questions_rights.proofs.Common.{◌≡◌, drop, flat_map, gathered, take}
use Rattle.book_questions_rights.specs.EqualCards.{classes_after}
use Rattle.book_questions_rights.specs.Lines.{card_blocks, class_blocks}
use Rattle.book_questions_rights.proofs.telling.add_cards.Given as goal

-- the blocks so far with those to come are those with all
abbrev pub invariant-loop-i : goal.invariant-loop-i
invariant-loop-i l = gathered l.blocks (flat_map (class_blocks l.shared l.askers l.place) (classes_after l.cards (take l.i l.cards) (drop l.i l.cards)))
    ≡ gathered l.fn.blocks (card_blocks l.shared l.askers l.place)
