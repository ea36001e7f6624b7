use Rattle.std.proofs.Common.{◌≡◌, ◌+◌, ◌≤◌, drop}
use Rattle.book_dumps_restoring.specs.Restoring.{cards_in}
use Rattle.book_dumps_restoring.proofs.room.count_cards.Given as goal

-- the cards so far and those to come are all
abbrev pub invariant-loop-line : goal.invariant-loop-line
invariant-loop-line l = record {
  parts : l.count + cards_in (drop l.line-index l.lines) l.book ≡ cards_in l.lines l.book;
  few : l.count ≤ l.line-index;
}
