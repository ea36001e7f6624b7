-- What decides a leaf among things in order, and what it does among more of them.
use Rattle.book_lists.proofs.Common.{◌≡◌, ℕ, ◌<◌, ◌≤◌, ◌⊎◌, inl, inr, zero, suc, Bool, false, List, [], ◌∷◌, ◌++◌, length, slice_get, Option, Some, None, refl, subst, arith, both_ways, cases_lt, slice_get_within, Leaf}
use Rattle.book_lists.specs.Deciding.{DecidesBy, DeniesBy, GrantsBy, IsAllowedBy, IsDenialBy}

-- ---- places in two lists
pub left_at : {A : Type 0} (xs ys : List A) (i : ℕ) (x : A) → slice_get xs i ≡ Some x → slice_get (xs ++ ys) i ≡ Some x
left_at [] ys i x e = absurd cc
left_at (y ∷ xs) ys zero x e = e
left_at (y ∷ xs) ys (suc i) x e = left_at xs ys i x e

-- what stands in both lists at a place of the first stands in the first
pub left_back : {A : Type 0} (xs ys : List A) (i : ℕ) (x : A) → slice_get (xs ++ ys) i ≡ Some x → i < length xs → slice_get xs i ≡ Some x
left_back [] ys i x e lt = absurd (omega (arith, lt))
left_back (y ∷ xs) ys zero x e lt = e
left_back (y ∷ xs) ys (suc i) x e lt = left_back xs ys i x e (omega (arith, lt))

pub last_at : {A : Type 0} (xs : List A) (x : A) → slice_get (xs ++ x ∷ []) (length xs) ≡ Some x
last_at [] x = refl
last_at (y ∷ xs) x = last_at xs x

-- what stands in a list with one more is that one or stands in the list
pub split_last : {A : Type 0} (xs : List A) (x : A) (i : ℕ) (y : A) → slice_get (xs ++ x ∷ []) i ≡ Some y
    → (slice_get xs i ≡ Some y) ⊎ ((length xs ≤ i) × (x ≡ y))
split_last [] x zero y e = inr (omega arith, cc)
split_last [] x (suc i) y e = absurd cc
split_last (z ∷ xs) x zero y e = inl e
split_last (z ∷ xs) x (suc i) y e = elim (split_last xs x i y e) [
  | inl h ↦ inl h
  | inr h ↦ inr (let l = h.0 in omega arith, h.1)
]

module _ {X : Type 0} (bears : Leaf → X → Bool) (denying : X → Bool) where
  module _ (xs : List X) where
    -- ---- what decides one leaf is one
    pub one_place : (leaf : Leaf) (i j : ℕ) (x y : X) → DecidesBy bears xs i leaf x → DecidesBy bears xs j leaf y → i ≡ j
    one_place leaf i j x y a b =
        let not_before : i < j → ⊥ = λ lt. let h = b.first i x lt a.there in cc (h, a.bearing) in
        let not_after : j < i → ⊥ = λ lt. let h = a.first j y lt b.there in cc (h, b.bearing) in
        omega (arith, not_before, not_after)

    pub one_decider : (leaf : Leaf) (i j : ℕ) (x y : X) → DecidesBy bears xs i leaf x → DecidesBy bears xs j leaf y → x ≡ y
    one_decider leaf i j x y a b =
        let same : i ≡ j = one_place leaf i j x y a b in
        cc (same, a.there, b.there)

    -- a leaf is not both denied and granted
    pub denied_or_granted : (leaf : Leaf) (i : ℕ) → DeniesBy bears denying xs i leaf → GrantsBy bears denying xs leaf → ⊥
    denied_or_granted leaf i d g =
        let same : g.1 ≡ d.0 = one_decider leaf g.0 i g.1 d.0 g.2 d.1 in
        both_ways _ (subst (λ x. denying x ≡ false) same g.3) d.2

    -- a need with a denial is not allowed
    pub denied_or_allowed : (need : Leaf → Bool) (leaf : Leaf) (index : Option ℕ) → IsDenialBy bears denying xs need leaf index → IsAllowedBy bears denying xs need → ⊥
    denied_or_allowed need leaf None d allowed = let g = allowed leaf d.0 in d.1 g.0 g.1 g.2
    denied_or_allowed need leaf (Some i) d allowed = denied_or_granted leaf i d.1 (allowed leaf d.0)

  -- ---- the same among more
  module _ (xs ys : List X) where
    pub decides_more : (i : ℕ) (leaf : Leaf) (x : X) → DecidesBy bears xs i leaf x → DecidesBy bears (xs ++ ys) i leaf x
    decides_more i leaf x d =
        let within = slice_get_within xs i x d.there in
        record {
          there = left_at xs ys i x d.there;
          bearing = d.bearing;
          first = λ k earlier lt at. d.first k earlier lt (left_back xs ys k earlier at (omega (arith, lt, within)));
        }

    decides_fewer : (i : ℕ) (leaf : Leaf) (x : X) → DecidesBy bears (xs ++ ys) i leaf x → i < length xs → DecidesBy bears xs i leaf x
    decides_fewer i leaf x d lt = record {
      there = left_back xs ys i x d.there lt;
      bearing = d.bearing;
      first = λ k earlier before at. d.first k earlier before (left_at xs ys k earlier at);
    }

    pub allowed_more : (need : Leaf → Bool) → IsAllowedBy bears denying xs need → IsAllowedBy bears denying (xs ++ ys) need
    allowed_more need all leaf wanted = let g = all leaf wanted in (g.0, g.1, decides_more g.0 leaf g.1 g.2, g.3)

    pub denies_more : (i : ℕ) (leaf : Leaf) → DeniesBy bears denying xs i leaf → DeniesBy bears denying (xs ++ ys) i leaf
    denies_more i leaf d = (d.0, decides_more i leaf d.0 d.1, d.2)

    pub denial_more : (need : Leaf → Bool) (leaf : Leaf) (i : ℕ) → IsDenialBy bears denying xs need leaf (Some i) → IsDenialBy bears denying (xs ++ ys) need leaf (Some i)
    denial_more need leaf i d = (
      d.0,
      denies_more i leaf d.1,
      λ j other wanted e. elim (cases_lt j (length xs)) [
        | inl lt ↦ d.2 j other wanted (e.0, decides_fewer j other e.0 e.1 lt, e.2)
        | inr past ↦ inl (let within = slice_get_within xs i d.1.0 d.1.1.there in omega (arith, within, past))
      ],
    )
