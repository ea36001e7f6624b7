use Rattle.book_cards.proofs.Common.{◌≡◌, ◌+◌, ◌≤◌, length, Utf8, shadow}
use Rattle.book_cards.specs.CardText.{card_lines}
use Rattle.book_cards.proofs.card.count_lines.Given as goal

abbrev pub invariant-loop-line : goal.invariant-loop-line
invariant-loop-line l = shadow (Utf8 l.rest) × (l.count + length (card_lines l.rest) ≡ length (card_lines l.text)) × (l.count + length l.rest ≤ length l.text)

abbrev pub decreases-loop-line : goal.decreases-loop-line
decreases-loop-line l = length l.rest
