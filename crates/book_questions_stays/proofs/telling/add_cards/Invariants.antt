use Rattle.book_questions_stays.proofs.Common.{◌≡◌, drop, gathered, map}
use Rattle.book_questions_stays.specs.Stays.{card_block}
use Rattle.book_questions_stays.proofs.telling.add_cards.Given as goal

-- the blocks so far with those to come are those with all
abbrev pub invariant-loop-card : goal.invariant-loop-card
invariant-loop-card l = gathered l.blocks (map (card_block l.book) (drop l.card-index l.cards)) ≡ gathered l.fn.blocks (map (card_block l.book) l.cards)
