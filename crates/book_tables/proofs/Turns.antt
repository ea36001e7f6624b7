-- Steps in turn, of which each leaves a value or makes the same of it.
use Rattle.book_tables.proofs.Common.{◌≡◌, ◌⊎◌, inl, inr, List, [], ◌∷◌, refl, sym, ap, ◌∙◌, AllByRecursion, Has}

module _ {A X : Type 0} (step : A → X → X) where
  abbrev pub turned : List A → X → X
  turned [] x = x
  turned (a ∷ items) x = turned items (step a x)

  abbrev pub Leaves : A → Type 0
  Leaves a = (x : X) → step a x ≡ x

  -- a value that no step changes stays
  pub turned_stays : (items : List A) → AllByRecursion Leaves items → (x : X) → turned items x ≡ x
  turned_stays [] all x = refl
  turned_stays (a ∷ items) all x = ap (turned items) (all.0 x) ∙ turned_stays items all.1 x

  module _ (goal : X → X) (twice : (x : X) → goal (goal x) ≡ goal x) where
    abbrev pub Makes : A → Type 0
    Makes a = (x : X) → step a x ≡ goal x

    abbrev pub LeavesOrMakes : A → Type 0
    LeavesOrMakes a = Leaves a ⊎ Makes a

    -- it is as it was, or was made so
    pub turned_either : (items : List A) → AllByRecursion LeavesOrMakes items → (x : X) → (turned items x ≡ x) ⊎ (turned items x ≡ goal x)
    turned_either [] all x = inl refl
    turned_either (a ∷ items) all x = elim all.0 [
      | inl leaves ↦ elim (turned_either items all.1 x) [ inl stays ↦ inl (ap (turned items) (leaves x) ∙ stays) | inr made ↦ inr (ap (turned items) (leaves x) ∙ made) ]
      | inr makes ↦ inr (elim (turned_either items all.1 (goal x)) [ inl stays ↦ ap (turned items) (makes x) ∙ stays | inr made ↦ ap (turned items) (makes x) ∙ made ∙ twice x ])
    ]

    -- where one of the steps makes it so, it was made so
    pub turned_made : (items : List A) → AllByRecursion LeavesOrMakes items → (a : A) → Has items a → Makes a → (x : X) → turned items x ≡ goal x
    turned_made [] all a there makes x = absurd there
    turned_made (b ∷ items) all a (inl is) makes x = elim (turned_either items all.1 (step b x)) [
      | inl stays ↦ stays ∙ ap (λ c. step c x) (sym is) ∙ makes x
      | inr made ↦ made ∙ ap goal (ap (λ c. step c x) (sym is) ∙ makes x) ∙ twice x
    ]
    turned_made (b ∷ items) all a (inr later) makes x = turned_made items all.1 a later makes (step b x) ∙ go all.0
      where
        go : LeavesOrMakes b → goal (step b x) ≡ goal x
        go (inl leaves) = ap goal (leaves x)
        go (inr makes_too) = ap goal (makes_too x) ∙ twice x
