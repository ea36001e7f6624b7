use Rattle.book_questions_audit.proofs.Common.{◌≡◌, flat_map, gathered, take}
use Rattle.book_questions_audit.specs.Lines.{card_blocks}
use Rattle.book_questions_audit.proofs.telling.add_cards.Given as goal

-- the blocks of the cards so far
abbrev pub invariant-loop-card : goal.invariant-loop-card
invariant-loop-card l = l.blocks ≡ gathered l.fn.blocks (flat_map (card_blocks l.wanted l.part) (take l.card-index l.cards))
