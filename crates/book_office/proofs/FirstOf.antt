-- The first so many items of a list.
use Rattle.book_office.proofs.Common.{◌≡◌, List, [], ◌∷◌, map, Option, Some, None, refl, ap}
use Rattle.std.proofs.Common.{ℕ, zero, suc, Bool, true, false, cond, take, filter}
use Rattle.book_office_values.specs.Changes.{first_of}

take_map : {A B : Type 0} (f : A → B) (n : ℕ) (xs : List A) → map f (take n xs) ≡ take n (map f xs)
take_map f zero xs = refl
take_map f (suc n) [] = refl
take_map f (suc n) (x ∷ xs) = ap (λ l. f x ∷ l) (take_map f n xs)

-- the first items, each told, are the first that are told
pub first_map : {A B : Type 0} (f : A → B) (most : Option ℕ) (xs : List A) → map f (first_of most xs) ≡ first_of most (map f xs)
first_map f None xs = refl
first_map f (Some n) xs = take_map f n xs

take_none : {A : Type 0} (n : ℕ) → ◌≡◌ {A = List A} [] (take n [])
take_none zero = refl
take_none (suc n) = refl

pub first_none : {A : Type 0} (most : Option ℕ) → ◌≡◌ {A = List A} [] (first_of most [])
first_none None = refl
first_none (Some n) = take_none n

-- a test after the items are told is the test before
pub filter_map : {A B : Type 0} (f : A → B) (p : B → Bool) (xs : List A) → filter p (map f xs) ≡ map f (filter (λ x. p (f x)) xs)
filter_map f p [] = refl
filter_map f p (x ∷ xs) = elim (p (f x)) as (λ b. cond b (f x ∷ filter p (map f xs)) (filter p (map f xs)) ≡ map f (cond b (x ∷ filter (λ y. p (f y)) xs) (filter (λ y. p (f y)) xs))) [
  | true ↦ ap (λ l. f x ∷ l) (filter_map f p xs)
  | false ↦ filter_map f p xs
]
