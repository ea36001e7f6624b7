-- The first that bears on a leaf, as a function finds it.
use Rattle.book_lists.proofs.Common.{◌≡◌, ℕ, zero, suc, ◌<◌, ◌⊎◌, inl, inr, ◌↔◌, Bool, true, false, not, List, [], ◌∷◌, ◌++◌, length, slice_get, Option, Some, None, refl, sym, ap, ◌∙◌, subst, arith, both_ways, Leaf}
use Rattle.std.proofs.lemmas.Bool.{cases_Bool}
use Rattle.std.proofs.Common.{option_map, is_none, if◌then◌else◌}
use Rattle.std.specs.Option.{option_map_or}
use Rattle.book_lists.specs.Deciding.{DecidesBy, GrantsBy, IsUndecidedBy, decider, granted, undecided}
use Rattle.book_lists.specs.Decisions.{bears, DecidersDecide}
use Rattle.book_lists.proofs.FirstBearings.{left_back, last_at, split_last, one_place, one_decider, decides_more}

abbrev pub or_else : {A : Type 0} → Option A → Option A → Option A
or_else (Some a) other = Some a
or_else None other = other

abbrev pub when : {A : Type 0} → Bool → A → Option A
when true a = Some a
when false a = None

module _ {X : Type 0} (bears : Leaf → X → Bool) (leaf : Leaf) where
  none_ahead : (y : X) (ys : List X) → bears leaf y ≡ false → ((k : ℕ) (z : X) → slice_get ys k ≡ Some z → bears leaf z ≡ false)
      → (k : ℕ) (z : X) → slice_get (y ∷ ys) k ≡ Some z → bears leaf z ≡ false
  none_ahead y ys passes none zero z at = let same : y ≡ z = cc in subst (λ w. bears leaf w ≡ false) same passes
  none_ahead y ys passes none (suc k) z at = none k z at

  first_ahead : (y : X) (ys : List X) (i : ℕ) → bears leaf y ≡ false → ((k : ℕ) (z : X) → k < i → slice_get ys k ≡ Some z → bears leaf z ≡ false)
      → (k : ℕ) (z : X) → k < suc i → slice_get (y ∷ ys) k ≡ Some z → bears leaf z ≡ false
  first_ahead y ys i passes first zero z lt at = let same : y ≡ z = cc in subst (λ w. bears leaf w ≡ false) same passes
  first_ahead y ys i passes first (suc k) z lt at = first k z (omega (arith, lt)) at

  abbrev pub Found : List X → Type 0
  Found xs = (i : ℕ) × (x : X) × (decider bears xs leaf ≡ Some (i, x)) × DecidesBy bears xs i leaf x

  abbrev pub Unfound : List X → Type 0
  Unfound xs = (decider bears xs leaf ≡ None) × ((k : ℕ) (y : X) → slice_get xs k ≡ Some y → bears leaf y ≡ false)

  abbrev later : ℕ × X → ℕ × X
  later found = (suc found.0, found.1)

  abbrev step : X → List X → Bool → Option (ℕ × X)
  step y ys b = if b then Some (0, y) else option_map later (decider bears ys leaf)

  -- the first is found, or none bears
  pub found_or_none : (xs : List X) → Found xs ⊎ Unfound xs
  found_or_none [] = inr (refl, λ k y at. absurd cc)
  found_or_none (y ∷ ys) = elim (cases_Bool (bears leaf y)) [
    | inl holds ↦ inl (0, y, ap (step y ys) holds, record { there = refl; bearing = holds; first = λ k z lt at. absurd (omega (arith, lt)) })
    | inr passes ↦ elim (found_or_none ys) [
      | inl f ↦ inl (suc f.0, f.1, ap (step y ys) passes ∙ ap (option_map later) f.2, record { there = f.3.there; bearing = f.3.bearing; first = first_ahead y ys f.0 passes f.3.first })
      | inr none ↦ inr (ap (step y ys) passes ∙ ap (option_map later) none.0, none_ahead y ys passes none.1)
    ]
  ]

  pub found_decides : (xs : List X) (i : ℕ) (x : X) → decider bears xs leaf ≡ Some (i, x) → DecidesBy bears xs i leaf x
  found_decides xs i x e = elim (found_or_none xs) [
    | inl f ↦
        let same : Some (f.0, f.1) ≡ Some (i, x) = sym f.2 ∙ e in
        let pair : (f.0, f.1) ≡ (i, x) = cc in
        subst (λ (p : ℕ × X). DecidesBy bears xs p.0 leaf p.1) pair f.3
    | inr none ↦ absurd cc
  ]

  pub decides_found : (xs : List X) (i : ℕ) (x : X) → DecidesBy bears xs i leaf x → decider bears xs leaf ≡ Some (i, x)
  decides_found xs i x d = elim (found_or_none xs) [
    | inl f ↦
        let place : f.0 ≡ i = one_place bears (λ (y : X). true) xs leaf f.0 i f.1 x f.3 d in
        let is : f.1 ≡ x = one_decider bears (λ (y : X). true) xs leaf f.0 i f.1 x f.3 d in
        f.2 ∙ (λ k. Some (place k, is k))
    | inr none ↦ absurd (both_ways _ (none.1 i x d.there) d.bearing)
  ]

  -- what is found stays found among more
  pub found_more : (xs ys : List X) (found : ℕ × X) → decider bears xs leaf ≡ Some found → decider bears (xs ++ ys) leaf ≡ Some found
  found_more xs ys found e = decides_found (xs ++ ys) found.0 found.1 (decides_more bears (λ (y : X). true) xs ys found.0 leaf found.1 (found_decides xs found.0 found.1 e))

  -- with one more that is found where none of the others is
  pub found_last : (xs : List X) (x : X) → decider bears (xs ++ x ∷ []) leaf ≡ or_else (decider bears xs leaf) (when (bears leaf x) (length xs, x))
  found_last xs x = elim (found_or_none xs) [
    | inl f ↦ found_more xs (x ∷ []) (f.0, f.1) f.2 ∙ sym (ap (λ o. or_else o (when (bears leaf x) (length xs, x))) f.2)
    | inr none ↦ last_or_none none.1 ∙ sym (ap (λ o. or_else o (when (bears leaf x) (length xs, x))) none.0)
  ]
    where
      last_or_none : ((k : ℕ) (y : X) → slice_get xs k ≡ Some y → bears leaf y ≡ false) → decider bears (xs ++ x ∷ []) leaf ≡ when (bears leaf x) (length xs, x)
      last_or_none none = elim (cases_Bool (bears leaf x)) [
        | inl holds ↦
            decides_found (xs ++ x ∷ []) (length xs) x (record { there = last_at xs x; bearing = holds; first = λ k y lt at. none k y (left_back xs (x ∷ []) k y at lt) })
            ∙ sym (ap (λ b. when b (length xs, x)) holds)
        | inr passes ↦ elim (found_or_none (xs ++ x ∷ [])) [
          | inl f ↦ absurd (elim (split_last xs x f.0 f.1 f.3.there) [
            | inl old ↦ both_ways _ (none f.0 f.1 old) f.3.bearing
            | inr new ↦ both_ways _ passes (subst (λ y. bears leaf y ≡ true) (sym new.1) f.3.bearing)
          ])
          | inr never ↦ never.0 ∙ sym (ap (λ b. when b (length xs, x)) passes)
        ]
      ]

-- the leaves that are granted, denied or undecided, as functions and as relations
module _ {X : Type 0} (bears : Leaf → X → Bool) (denying : X → Bool) (xs : List X) (leaf : Leaf) where
  pub grants_tells : (granted bears denying xs leaf ≡ true) ↔ GrantsBy bears denying xs leaf
  grants_tells = (
    λ e. elim (found_or_none bears leaf xs) [
      | inl f ↦ (f.0, f.1, f.3, not_true _ (sym (ap (λ o. option_map_or (λ (x : ℕ × X). not (denying x.1)) o false) f.2) ∙ e))
      | inr none ↦ absurd (both_ways _ (ap (λ o. option_map_or (λ (x : ℕ × X). not (denying x.1)) o false) none.0) e)
    ],
    λ g. ap (λ o. option_map_or (λ (x : ℕ × X). not (denying x.1)) o false) (decides_found bears leaf xs g.0 g.1 g.2) ∙ ap not g.3,
  )
    where
      not_true : (b : Bool) → not b ≡ true → b ≡ false
      not_true false e = refl
      not_true true e = absurd (both_ways _ refl e)

  pub undecided_tells : (undecided bears denying xs leaf ≡ true) ↔ IsUndecidedBy bears denying xs leaf
  undecided_tells = (
    λ e i x d. both_ways _ (ap is_none (decides_found bears leaf xs i x d)) e,
    λ gap. elim (found_or_none bears leaf xs) [ inl f ↦ absurd (gap f.0 f.1 f.3) | inr none ↦ ap is_none none.0 ],
  )

pub deciders_decide : DecidersDecide
deciders_decide entries circle here i leaf entry = (found_decides (bears circle here) leaf entries i entry, decides_found (bears circle here) leaf entries i entry)
