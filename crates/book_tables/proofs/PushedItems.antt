-- A vector that gets what each item of a list becomes, one after the other.
use Rattle.book_tables.proofs.Common.{◌≡◌, ℕ, ◌+◌, ◌<◌, ◌≤◌, List, [], ◌∷◌, ◌++◌, map, drop, get_or, length, refl, sym, ap, ◌∙◌}
use Rattle.std.proofs.lemmas.List.{append_assoc, append-nil, drop_more, drop_all, map-append}

module _ {A B C : Type 0} (f : A → C) (g : B → C) (list : List B) where
  -- what is in the vector and what is to come are the whole
  abbrev pub AreOnTheWay : List A → ℕ → Type 0
  AreOnTheWay items place = map f items ++ map g (drop place list) ≡ map g list

  pub one_pushed : (items : List A) (place : ℕ) (new : A) (item : B) → place < length list → get_or list place item ≡ item → f new ≡ g item → AreOnTheWay items place → AreOnTheWay (items ++ new ∷ []) (place + 1)
  one_pushed items place new item within is same so_far =
      ap (λ xs. xs ++ map g (drop (place + 1) list)) (map-append f items (new ∷ []))
      ∙ append_assoc (map f items) (f new ∷ []) (map g (drop (place + 1) list))
      ∙ ap (λ x. map f items ++ x ∷ map g (drop (place + 1) list)) (same ∙ ap g (sym is))
      ∙ ap (λ xs. map f items ++ map g xs) (sym (drop_more list place item within))
      ∙ so_far

  pub all_pushed : (items : List A) (place : ℕ) → length list ≤ place → AreOnTheWay items place → map f items ≡ map g list
  all_pushed items place over so_far = sym (append-nil (map f items)) ∙ ap (λ xs. map f items ++ map g xs) (sym (drop_all place list over)) ∙ so_far

pub map_nothing : {A : Type 0} (xs : List A) → map (λ x. x) xs ≡ xs
map_nothing [] = refl
map_nothing (x ∷ xs) = ap (λ ys. x ∷ ys) (map_nothing xs)
