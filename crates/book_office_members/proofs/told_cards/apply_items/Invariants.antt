use Rattle.book_office_members.proofs.Common.{◌≡◌, length, NamesTo, patch, Seen, AreCardsOf}
use Rattle.std.specs.Vec.Iter.{into_iter_items, into_iter_len}
use Rattle.book_office_members.proofs.told_cards.apply_items.Given as goal

-- of whichever copy the cards were, they are those of the copy that the items so far make of it
abbrev pub invariant-loop-item : goal.invariant-loop-item
invariant-loop-item l = record {
  copied : (copy : NamesTo Seen) → AreCardsOf copy l.fn.cards → (so_far : NamesTo Seen) × AreCardsOf so_far l.cards
      × (patch so_far (into_iter_items l.item-iterator) ≡ patch copy (into_iter_items l.initial.item-iterator));
  count : into_iter_len l.item-iterator ≡ length (into_iter_items l.item-iterator);
}
