use Rattle.book_machine.proofs.Common.{◌≡◌, ℕ, List, Result, Ok, Err, inl, inr, ap, sym, refl, subst, ◌∙◌, card_fault, CardFault, Meets, bad_card}
use Rattle.std.proofs.Common.{IfOk}
use Rattle.book_cards.proofs.ValidLaws.{card_complete}
use Rattle.book_cards.specs.Folding.{unfolded}
use Rattle.book_cards.specs.Valid.{IsCard}
use Rattle.book_machine.proofs.stages.check_card.Goals as goal

card_of : (r : Result (List ℕ) CardFault) (text : List ℕ) → ((fault : CardFault) → r ≡ Err fault → ⊥)
    → IfOk r (λ card. IsCard text × (card ≡ unfolded text)) → IsCard text
card_of (Ok card) text faultless is = is.0
card_of (Err fault) text faultless is = absurd (faultless fault refl)

pub returns : goal.returns
returns c = subst (λ text. bad_card (card_fault text) ≡ Ok tt) c.as_str.ensures
    (ap bad_card (card_complete c.as_str.result.now (card_of _ c.as_str.result.now c.in_default.not-Err c.read_card.ensures.card)))

pub returns-in-Err : goal.returns-in-Err
returns-in-Err c = subst (λ text. Meets (Err c.card_refusal.result) (bad_card (card_fault text))) c.as_str.ensures (elim c.in-Err.ensures.fault [
  | inl memory ↦ inl (c.card_refusal.ensures.memory (ap (λ (f : CardFault). f.kind) memory))
  | inr is ↦ elim c.card_refusal.ensures.card [
    | inl memory ↦ inl memory.1
    | inr bad ↦ inr (ap bad_card is ∙ ap Err (sym bad))
  ]
])
