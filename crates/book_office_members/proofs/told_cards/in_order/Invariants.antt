use Rattle.book_office_members.proofs.Common.{◌≡◌, ◌++◌, List, ℕ, map, CardRef}
use Rattle.book_office_members.proofs.told_cards.in_order.Given as goal

-- the cards so far and those to come are all
abbrev pub invariant-loop-card : goal.invariant-loop-card
invariant-loop-card l = record {
  next : (goal.iterator-loop-card).can_next l.card-iterator;
  finite : (goal.iterator-loop-card).is_finite l.card-iterator;
  parts : l.list.items ++ map (λ (e : List ℕ × CardRef). e.1) l.card-iterator ≡ map (λ (e : List ℕ × CardRef). e.1) l.initial.card-iterator;
}
