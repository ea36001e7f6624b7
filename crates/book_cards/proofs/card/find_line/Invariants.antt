use Rattle.book_cards.proofs.Common.{◌≡◌, length, Utf8, shadow, slice_get, option_and_then, lines, fields_of}
use Rattle.book_cards.proofs.card.find_line.Given as goal

abbrev pub invariant-loop-line : goal.invariant-loop-line
invariant-loop-line l = shadow (Utf8 l.rest) × (option_and_then fields_of (slice_get (lines l.rest) l.left) ≡ option_and_then fields_of (slice_get (lines l.text) l.index))

abbrev pub decreases-loop-line : goal.decreases-loop-line
decreases-loop-line l = length l.rest
