use Rattle.book_tables.proofs.Common.{◌≡◌, map, take, DoNotFall, card_among}
use Rattle.book_tables.proofs.changes.cards_joined.Given as goal

-- the changes so far are those of the rows so far
abbrev pub invariant-cards : goal.invariant-cards
invariant-cards l = DoNotFall l.entries → l.changes.items ≡ map (card_among l.entries l.front) (take l.row-index l.rows)
