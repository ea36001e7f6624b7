use Rattle.book_cards.proofs.Common.{◌≡◌, ◌+◌, drop, option_map, colon_from, Start}
use Rattle.book_cards.proofs.line.find_colon.Given as goal

-- the colon of the rest is that of the text
abbrev pub invariant-loop-i : goal.invariant-loop-i
invariant-loop-i l = option_map (λ n. n + l.i) (colon_from l.position (drop l.i l.text)) ≡ colon_from Start l.text
