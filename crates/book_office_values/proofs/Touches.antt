-- The numbers of a book after a change of one name.
use Rattle.book_office_values.proofs.Common.{◌≡◌, ℕ, ◌+◌, ◌≤◌, List, cond, Some, sym, ◌∙◌, arith, get, Numbers, touched, AreNumbers}
use Rattle.std.proofs.lemmas.Option.{same_Some}
use Rattle.book_office_values.specs.Changes.{AreWithin}
use Rattle.book_office_values.proofs.NameMapLaws.{same, by_same, put_at}

module _ (c : Numbers) (name : List ℕ) where
  -- the name has the next number, and each other name what it had
  pub get-touched : (q : List ℕ) → get (touched c name).last q ≡ cond (same q name) (Some (c.number + 1)) (get c.last q)
  get-touched q = put_at c.last name (c.number + 1) q

  pub touched_within : AreWithin c → AreWithin (touched c name)
  touched_within within q n e =
      by_same q name (λ b. cond b (Some (c.number + 1)) (get c.last q) ≡ Some n → (1 ≤ n) × (n ≤ c.number + 1))
      (λ _ h. let f = same_Some _ _ h in (omega arith, omega arith))
      (λ h. let w = within q n h in (w.0, omega arith))
      (sym (get-touched q) ∙ e)

  pub touched_different : AreNumbers c → (a b : List ℕ) (n : ℕ) → get (touched c name).last a ≡ Some n → get (touched c name).last b ≡ Some n → a ≡ b
  touched_different sound a b n ea eb =
      by_same a name (λ x. cond x (Some (c.number + 1)) (get c.last a) ≡ Some n → a ≡ b)
      (λ isa ha. by_same b name (λ y. cond y (Some (c.number + 1)) (get c.last b) ≡ Some n → a ≡ b)
      (λ isb _. isa ∙ sym isb)
      (λ hb. let f = same_Some _ _ ha in let w = sound.within b n hb in absurd (omega arith))
      (sym (get-touched b) ∙ eb))
      (λ ha. by_same b name (λ y. cond y (Some (c.number + 1)) (get c.last b) ≡ Some n → a ≡ b)
      (λ isb hb. let f = same_Some _ _ hb in let w = sound.within a n ha in absurd (omega arith))
      (λ hb. sound.different a b n ha hb)
      (sym (get-touched b) ∙ eb))
      (sym (get-touched a) ∙ ea)

  -- a change keeps the rule
  pub touched_are : AreNumbers c → AreNumbers (touched c name)
  touched_are sound = record { within = touched_within sound.within; different = touched_different sound }
