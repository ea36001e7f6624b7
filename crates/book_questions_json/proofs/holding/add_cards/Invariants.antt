use Rattle.book_questions_json.proofs.Common.{◌≡◌, drop, flat_map, gathered, take}
use Rattle.book_questions_rights.specs.EqualCards.{classes_after}
use Rattle.book_questions_json.specs.HeldBlocks.{card_objects, class_objects}
use Rattle.book_questions_json.proofs.holding.add_cards.Given as goal

-- the blocks so far with those to come are those with all
abbrev pub invariant-loop-i : goal.invariant-loop-i
invariant-loop-i l = gathered l.blocks (flat_map (class_objects l.shared l.askers l.place) (classes_after l.cards (take l.i l.cards) (drop l.i l.cards)))
    ≡ gathered l.fn.blocks (card_objects l.shared l.askers l.place)
