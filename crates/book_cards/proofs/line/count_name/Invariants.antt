use Rattle.book_cards.proofs.Common.{◌≡◌, ◌+◌, drop, name_length}
use Rattle.book_cards.proofs.line.count_name.Given as goal

abbrev pub invariant-loop-i : goal.invariant-loop-i
invariant-loop-i l = l.i + name_length (drop l.i l.text) ≡ name_length l.text
