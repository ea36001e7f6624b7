-- Elements of lists.
use Rattle.std.proofs.Common.{◌≡◌, ◌++◌, ◌∷◌, ◌⊎◌, [], List, Contains, arith, inl, inr, map, refl, subst, sym, suc, zero}
use Rattle.std.specs.List.{flat_map}
pub use Rattle.book_lists.proofs.Elements.{Mem, mem_map}

pub mem_of : {A : Type 0} (x : A) (xs : List A) → Contains xs x → Mem x xs
mem_of x [] h = absurd (let l = h.1 in omega arith)
mem_of x (y ∷ ys) (zero, l, e) = inl (sym e)
mem_of x (y ∷ ys) (suc k, l, e) = inr (mem_of x ys (k, omega arith, e))

pub contains_of : {A : Type 0} (x : A) (xs : List A) → Mem x xs → Contains xs x
contains_of x [] m = absurd m
contains_of x (y ∷ ys) (inl e) = (0, omega arith, sym e)
contains_of x (y ∷ ys) (inr m) = let h = contains_of x ys m in (suc h.0, let l = h.1 in omega arith, h.2)

pub mem_left : {A : Type 0} (x : A) (xs ys : List A) → Mem x xs → Mem x (xs ++ ys)
mem_left x [] ys m = absurd m
mem_left x (y ∷ xs) ys (inl e) = inl e
mem_left x (y ∷ xs) ys (inr m) = inr (mem_left x xs ys m)

pub mem_right : {A : Type 0} (x : A) (xs ys : List A) → Mem x ys → Mem x (xs ++ ys)
mem_right x [] ys m = m
mem_right x (y ∷ xs) ys m = inr (mem_right x xs ys m)

pub mem_split : {A : Type 0} (x : A) (xs ys : List A) → Mem x (xs ++ ys) → Mem x xs ⊎ Mem x ys
mem_split x [] ys m = inr m
mem_split x (y ∷ xs) ys (inl e) = inl (inl e)
mem_split x (y ∷ xs) ys (inr m) = elim (mem_split x xs ys m) [ inl h ↦ inl (inr h) | inr h ↦ inr h ]

pub mem_of_map : {A B : Type 0} (f : A → B) (y : B) (xs : List A) → Mem y (map f xs) → (x : A) × Mem x xs × (y ≡ f x)
mem_of_map f y [] m = absurd m
mem_of_map f y (x ∷ xs) (inl e) = (x, inl refl, e)
mem_of_map f y (x ∷ xs) (inr m) = let h = mem_of_map f y xs m in (h.0, inr h.1, h.2)

pub mem_of_flat : {A B : Type 0} (f : A → List B) (y : B) (xs : List A) → Mem y (flat_map f xs) → (x : A) × Mem x xs × Mem y (f x)
mem_of_flat f y [] m = absurd m
mem_of_flat f y (x ∷ xs) m = elim (mem_split y (f x) (flat_map f xs) m) [
  | inl h ↦ (x, inl refl, h)
  | inr h ↦ let r = mem_of_flat f y xs h in (r.0, inr r.1, r.2)
]

pub mem_flat : {A B : Type 0} (f : A → List B) (y : B) (x : A) (xs : List A) → Mem x xs → Mem y (f x) → Mem y (flat_map f xs)
mem_flat f y x [] m h = absurd m
mem_flat f y x (z ∷ xs) (inl e) h = mem_left y (f z) (flat_map f xs) (subst (λ a. Mem y (f a)) e h)
mem_flat f y x (z ∷ xs) (inr m) h = mem_right y (f z) (flat_map f xs) (mem_flat f y x xs m h)
