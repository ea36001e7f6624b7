-- Where no two elements of a list pass a test, the filter has at most the one that is found first.
use Rattle.book_tables_rows.proofs.Common.{◌≡◌, Bool, true, false, cond, List, [], ◌∷◌, filter, find, Some, refl, ap, AllByRecursion, option_to_list, IsAscending}

module _ {X : Type 0} (p : X → Bool) where
  -- no two pass
  abbrev pub PassesOnce : List X → Type 0
  PassesOnce = IsAscending (λ a b. p a ≡ true → p b ≡ false)

  pub none_passes : (xs : List X) → AllByRecursion (λ x. p x ≡ false) xs → filter p xs ≡ []
  none_passes [] h = refl
  none_passes (x ∷ xs) h = rw (h.0) (none_passes xs h.1)

  pub drawn : (x : X) → p x ≡ true → (xs : List X) → AllByRecursion (λ y. p x ≡ true → p y ≡ false) xs → AllByRecursion (λ y. p y ≡ false) xs
  drawn x is [] h = tt
  drawn x is (y ∷ ys) h = (h.0 is, drawn x is ys h.1)

  pub filter_finds : (xs : List X) → PassesOnce xs → filter p xs ≡ option_to_list (find p xs)
  filter_finds [] once = refl
  filter_finds (x ∷ xs) once = go (filter_finds xs once.1) (p x) refl
    where
      go : filter p xs ≡ option_to_list (find p xs) → (b : Bool) → p x ≡ b → cond b (x ∷ filter p xs) (filter p xs) ≡ option_to_list (cond b (Some x) (find p xs))
      go more true is = ap (λ ys. x ∷ ys) (none_passes xs (drawn x is xs once.0))
      go more false is = more
