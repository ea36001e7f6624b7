-- The first changes among the first of cards and the first of removed names are the first of all changes.
use Rattle.book_tables.proofs.Common.{◌≡◌, inl, inr, ℕ, suc, ◌<◌, ◌≤◌, Bool, true, false, cond, List, [], ◌∷◌, ◌++◌, map, filter, take, drop, length, refl, sym, ap, subst, ◌∙◌, arith, AllByRecursion, IsPermutation, IsAscending, Has, all_has, all_from, Changed}
use Rattle.std.proofs.Common.{◌⊎◌, nat_lt, zero}
use Rattle.std.proofs.lemmas.Bool.Decides.{nat_tests}
use Rattle.std.proofs.lemmas.List.Sorted.{length_permutation, IsPermutation-sym}
use Rattle.sqlite_keyed.proofs.ListLemmas.{filter_all, IsPermutation-filter}
use Rattle.sqlite_rules.proofs.ListLemmas.{has_left, has_right}
use Rattle.book_tables.proofs.BookChanges.{IsEarlier}
use Rattle.book_tables.proofs.SameLists.{has_map, has_mapped, has_permuted}

abbrev pub before : ℕ → Changed → Bool
before n c = nat_lt c.number n

less : (a b : ℕ) → a < b → nat_lt a b ≡ true
less a b h = grind (arith, nat_tests)

no_less : (a b : ℕ) → b ≤ a → nat_lt a b ≡ false
no_less a b h = grind (arith, nat_tests)

-- ---- two rising lists
none_before : (n : ℕ) (l : List Changed) → AllByRecursion (λ (c : Changed). n ≤ c.number) l → filter (before n) l ≡ []
none_before n [] all = refl
none_before n (c ∷ l) all = subst (λ b. cond b (c ∷ filter (before n) l) (filter (before n) l) ≡ []) (sym (no_less c.number n all.0)) (none_before n l all.1)

one_more : (n : ℕ) (c : Changed) (l : List Changed) → length (filter (before n) (c ∷ l)) ≤ suc (length (filter (before n) l))
one_more n c l = go (before n c)
  where
    go : (b : Bool) → length (cond b (c ∷ filter (before n) l) (filter (before n) l)) ≤ suc (length (filter (before n) l))
    go true = omega arith
    go false = omega arith

-- where the second list has the first, and of each that the first has not so many come before it in the first, they begin alike
pub first_same : (k : ℕ) (xs ys : List Changed) → IsAscending IsEarlier xs → IsAscending IsEarlier ys → ((z : Changed) → Has xs z → Has ys z)
    → ((z : Changed) → Has ys z → Has xs z ⊎ (k ≤ length (filter (before z.number) xs))) → take k xs ≡ take k ys
first_same zero xs ys up_x up_y into back = refl
first_same (suc k) [] [] up_x up_y into back = refl
first_same (suc k) [] (y ∷ ys) up_x up_y into back = elim (back y (inl refl)) [ inl h ↦ absurd h | inr h ↦ absurd (omega (arith, h)) ]
first_same (suc k) (x ∷ xs) [] up_x up_y into back = absurd (into x (inl refl))
first_same (suc k) (x ∷ xs) (y ∷ ys) up_x up_y into back =
    let rest = first_same k xs ys up_x.1 up_y.1 (λ z h. into_rest z h (into z (inr h))) (λ z h. back_rest z h (back z (inr h))) in
    λ i. head i ∷ rest i
  where
    from_back : y.number < x.number → Has (x ∷ xs) y ⊎ (suc k ≤ length (filter (before y.number) (x ∷ xs))) → x ≡ y
    from_back low (inl (inl is)) = sym is
    from_back low (inl (inr later)) = absurd (let high : x.number < y.number = all_has (IsEarlier x) xs y up_x.0 later in omega (arith, low, high))
    from_back low (inr many) =
        let above : AllByRecursion (λ (c : Changed). y.number ≤ c.number) xs = all_from _ xs (λ c h. let up : x.number < c.number = all_has (IsEarlier x) xs c up_x.0 h in omega (arith, up, low)) in
        let none : filter (before y.number) (x ∷ xs) ≡ [] = none_before y.number (x ∷ xs) (omega (arith, low), above) in
        absurd (let short : suc k ≤ length {A = Changed} [] = subst (λ l. suc k ≤ length l) none many in omega (arith, short))

    from_into : Has (y ∷ ys) x → x ≡ y
    from_into (inl is) = is
    from_into (inr later) = from_back (all_has (IsEarlier y) ys x up_y.0 later) (back y (inl refl))

    head : x ≡ y
    head = from_into (into x (inl refl))

    apart : (z : Changed) → x.number < z.number → z ≡ x → ⊥
    apart z up is = let same : z.number ≡ x.number = ap (λ (c : Changed). c.number) is in omega (arith, up, same)

    into_rest : (z : Changed) → Has xs z → Has (y ∷ ys) z → Has ys z
    into_rest z there (inl is) = absurd (apart z (all_has (IsEarlier x) xs z up_x.0 there) (is ∙ sym head))
    into_rest z there (inr later) = later

    back_rest : (z : Changed) → Has ys z → Has (x ∷ xs) z ⊎ (suc k ≤ length (filter (before z.number) (x ∷ xs))) → Has xs z ⊎ (k ≤ length (filter (before z.number) xs))
    back_rest z there (inl (inl is)) = absurd (apart z (subst (λ (c : Changed). c.number < z.number) (sym head) (all_has (IsEarlier y) ys z up_y.0 there)) is)
    back_rest z there (inl (inr later)) = inl later
    back_rest z there (inr many) = inr (let most = one_more z.number x xs in omega (arith, many, most))

-- ---- the first of a list, and what stands behind them
pub has_first : {X : Type 0} (k : ℕ) (xs : List X) (z : X) → Has (take k xs) z → Has xs z
has_first zero xs z h = absurd h
has_first (suc k) [] z h = absurd h
has_first (suc k) (x ∷ xs) z (inl is) = inl is
has_first (suc k) (x ∷ xs) z (inr later) = inr (has_first k xs z later)

has_behind : {X : Type 0} (k : ℕ) (xs : List X) (z : X) → Has (drop k xs) z → Has xs z
has_behind zero xs z h = h
has_behind (suc k) [] z h = absurd h
has_behind (suc k) (x ∷ xs) z h = inr (has_behind k xs z h)

front_or_behind : {X : Type 0} (k : ℕ) (xs : List X) (z : X) → Has xs z → Has (take k xs) z ⊎ Has (drop k xs) z
front_or_behind zero xs z h = inr h
front_or_behind (suc k) [] z h = absurd h
front_or_behind (suc k) (x ∷ xs) z (inl is) = inl (inl is)
front_or_behind (suc k) (x ∷ xs) z (inr later) = elim (front_or_behind k xs z later) [ inl h ↦ inl (inr h) | inr h ↦ inr h ]

-- behind so many there are so many
full : {X : Type 0} (k : ℕ) (xs : List X) (z : X) → Has (drop k xs) z → length (take k xs) ≡ k
full zero xs z h = refl
full (suc k) [] z h = absurd h
full (suc k) (x ∷ xs) z h = ap suc (full k xs z h)

front_below : {X : Type 0} (R : X → X → Type 0) (k : ℕ) (xs : List X) (z : X) → IsAscending R xs → Has (drop k xs) z → AllByRecursion (λ s. R s z) (take k xs)
front_below R zero xs z up h = tt
front_below R (suc k) [] z up h = absurd h
front_below R (suc k) (x ∷ xs) z up h = (all_has (R x) xs z up.0 (has_behind k xs z h), front_below R k xs z up.1 h)

-- ---- of a rising list two members with one number are one
pub one_number : (l : List Changed) → IsAscending IsEarlier l → (y z : Changed) → Has l y → Has l z → y.number ≡ z.number → y ≡ z
one_number [] up y z hy hz e = absurd hy
one_number (c ∷ l) up y z (inl iy) (inl iz) e = iy ∙ sym iz
one_number (c ∷ l) up y z (inl iy) (inr hz) e =
    let above : c.number < z.number = all_has (IsEarlier c) l z up.0 hz in let same : y.number ≡ c.number = ap (λ (d : Changed). d.number) iy in absurd (omega (arith, above, same, e))
one_number (c ∷ l) up y z (inr hy) (inl iz) e =
    let above : c.number < y.number = all_has (IsEarlier c) l y up.0 hy in let same : z.number ≡ c.number = ap (λ (d : Changed). d.number) iz in absurd (omega (arith, above, same, e))
one_number (c ∷ l) up y z (inr hy) (inr hz) e = one_number l up.1 y z hy hz e

-- each is below, or one of them is it
below_or_there : (z : Changed) (l : List Changed) → AllByRecursion (λ (y : Changed). (y.number ≤ z.number) × (y.number ≡ z.number → y ≡ z)) l → Has l z ⊎ AllByRecursion (λ (y : Changed). before z.number y ≡ true) l
below_or_there z [] all = inr tt
below_or_there z (y ∷ l) all = go (before z.number y) refl (below_or_there z l all.1)
  where
    go : (b : Bool) → before z.number y ≡ b → Has l z ⊎ AllByRecursion (λ (c : Changed). before z.number c ≡ true) l → Has (y ∷ l) z ⊎ AllByRecursion (λ (c : Changed). before z.number c ≡ true) (y ∷ l)
    go b e (inl later) = inl (inr later)
    go true e (inr rest) = inr (e, rest)
    go false e (inr rest) =
        let high : z.number ≤ y.number = not_below y.number z.number e in
        let low = all.0.0 in
        inl (inl (sym (all.0.1 (omega (arith, high, low)))))
      where
        not_below : (a b : ℕ) → nat_lt a b ≡ false → b ≤ a
        not_below a b h = grind (arith, nat_tests)

length_map : {A B : Type 0} (f : A → B) (xs : List A) → length (map f xs) ≡ length xs
length_map f [] = refl
length_map f (x ∷ xs) = ap suc (length_map f xs)

module _ (all : List Changed) (rise : IsAscending IsEarlier all) {X : Type 0} (f : X → Changed) (R : X → X → Type 0) (k : ℕ) (ordered : List X) (up : IsAscending R ordered)
    (told : (s : X) → Has ordered s → Has all (f s)) (ranked : (s t : X) → Has ordered s → Has ordered t → R s t → (f s).number ≤ (f t).number) where
  -- what stands behind the first so many is one of them, or comes behind so many
  pub first_or_many : (r : X) → Has ordered r → Has (map f (take k ordered)) (f r) ⊎ (k ≤ length (filter (before (f r).number) (map f (take k ordered))))
  first_or_many r there = elim (front_or_behind k ordered r there) [
    | inl front ↦ inl (has_map f (take k ordered) r front)
    | inr behind ↦
        let z = f r in
        let lows = front_below R k ordered r up behind in
        let each = all_from (λ (y : Changed). (y.number ≤ z.number) × (y.number ≡ z.number → y ≡ z)) (map f (take k ordered)) (λ y h.
        let s = has_mapped f (take k ordered) y h in
        let in_all = has_first k ordered s.0 s.1 in
        let low : (f s.0).number ≤ z.number = ranked s.0 r in_all there (all_has (λ t. R t r) (take k ordered) s.0 lows s.1) in
        (subst (λ (c : Changed). c.number ≤ z.number) (sym s.2) low, λ e. one_number all rise y z (subst (Has all) (sym s.2) (told s.0 in_all)) (told r there) e)) in
        elim (below_or_there z (map f (take k ordered)) each) [
          | inl has ↦ inl has
          | inr below ↦
              let size : length (map f (take k ordered)) ≡ k = length_map f (take k ordered) ∙ full k ordered r behind in
              inr (subst (λ l. k ≤ length l) (sym (filter_all (before z.number) (map f (take k ordered)) below)) (omega (arith, size)))
        ]
  ]

-- ---- two lists together
longer : {A : Type 0} (p : A → Bool) (xs ys : List A) → length (filter p xs) ≤ length (filter p (xs ++ ys))
longer p [] ys = omega arith
longer p (x ∷ xs) ys = go (p x) (longer p xs ys)
  where
    go : (b : Bool) → length (filter p xs) ≤ length (filter p (xs ++ ys)) → length (cond b (x ∷ filter p xs) (filter p xs)) ≤ length (cond b (x ∷ filter p (xs ++ ys)) (filter p (xs ++ ys)))
    go true h = omega (arith, h)
    go false h = h

longer_after : {A : Type 0} (p : A → Bool) (xs ys : List A) → length (filter p ys) ≤ length (filter p (xs ++ ys))
longer_after p [] ys = omega arith
longer_after p (x ∷ xs) ys = go (p x) (longer_after p xs ys)
  where
    go : (b : Bool) → length (filter p ys) ≤ length (filter p (xs ++ ys)) → length (filter p ys) ≤ length (cond b (x ∷ filter p (xs ++ ys)) (filter p (xs ++ ys)))
    go true h = omega (arith, h)
    go false h = h

module _ (k : ℕ) (cards names merged : List Changed) (same : IsPermutation (cards ++ names) merged) (z : Changed) where
  as_many : length (filter (before z.number) (cards ++ names)) ≡ length (filter (before z.number) merged)
  as_many = sym (length_permutation _ _ (IsPermutation-filter (before z.number) (cards ++ names) merged same))

  merged_has : Has (cards ++ names) z → Has merged z
  merged_has h = has_permuted merged (cards ++ names) (IsPermutation-sym _ _ same) z h

  pub of_cards : Has cards z ⊎ (k ≤ length (filter (before z.number) cards)) → Has merged z ⊎ (k ≤ length (filter (before z.number) merged))
  of_cards (inl h) = inl (merged_has (has_left cards names z h))
  of_cards (inr many) = inr (let more = longer (before z.number) cards names in omega (arith, many, more, as_many))

  pub of_names : Has names z ⊎ (k ≤ length (filter (before z.number) names)) → Has merged z ⊎ (k ≤ length (filter (before z.number) merged))
  of_names (inl h) = inl (merged_has (has_right cards names z h))
  of_names (inr many) = inr (let more = longer_after (before z.number) cards names in omega (arith, many, more, as_many))
