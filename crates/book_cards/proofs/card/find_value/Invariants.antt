use Rattle.book_cards.proofs.Common.{◌≡◌, length, Utf8, shadow, lines}
use Rattle.book_cards.specs.Properties.{first_value, is_property}
use Rattle.book_cards.proofs.card.find_value.Given as goal

abbrev pub invariant-loop-line : goal.invariant-loop-line
invariant-loop-line l = shadow (Utf8 l.rest) × (first_value (is_property l.wanted) (lines l.rest) ≡ first_value (is_property l.wanted) (lines l.text))

abbrev pub decreases-loop-line : goal.decreases-loop-line
decreases-loop-line l = length l.rest
