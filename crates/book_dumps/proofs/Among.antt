-- Elements of lists.
use Rattle.book_dumps.proofs.Common.{◌≡◌, ◌⊎◌, inl, inr, List, [], ◌∷◌, ◌++◌, refl, sym, ap, ◌∙◌, subst, map, Option, Some, None}
use Rattle.std.proofs.Common.{true, false, Bool, ◌||◌, flat_map}
use Rattle.std.specs.List.{All, cons_option, filter_map, list_any}
use Rattle.std.proofs.lemmas.List.Elements.{All-nil, All-cons}
pub use Rattle.book_office_values.proofs.Members.{Mem, mem_map}

pub mem_left : {A : Type 0} (x : A) (xs ys : List A) → Mem x xs → Mem x (xs ++ ys)
mem_left x [] ys m = absurd m
mem_left x (y ∷ xs) ys (inl e) = inl e
mem_left x (y ∷ xs) ys (inr m) = inr (mem_left x xs ys m)

pub mem_right : {A : Type 0} (x : A) (xs ys : List A) → Mem x ys → Mem x (xs ++ ys)
mem_right x [] ys m = m
mem_right x (y ∷ xs) ys m = inr (mem_right x xs ys m)

pub mem_split : {A : Type 0} (x : A) (xs ys : List A) → Mem x (xs ++ ys) → Mem x xs ⊎ Mem x ys
mem_split x [] ys m = inr m
mem_split x (y ∷ xs) ys (inl e) = inl (inl e)
mem_split x (y ∷ xs) ys (inr m) = elim (mem_split x xs ys m) [ inl h ↦ inl (inr h) | inr h ↦ inr h ]

pub mem_of_map : {A B : Type 0} (f : A → B) (y : B) (xs : List A) → Mem y (map f xs) → (x : A) × Mem x xs × (y ≡ f x)
mem_of_map f y [] m = absurd m
mem_of_map f y (x ∷ xs) (inl e) = (x, inl refl, e)
mem_of_map f y (x ∷ xs) (inr m) = let h = mem_of_map f y xs m in (h.0, inr h.1, h.2)

pub mem_of_flat : {A B : Type 0} (f : A → List B) (y : B) (xs : List A) → Mem y (flat_map f xs) → (x : A) × Mem x xs × Mem y (f x)
mem_of_flat f y [] m = absurd m
mem_of_flat f y (x ∷ xs) m = elim (mem_split y (f x) (flat_map f xs) m) [
  | inl h ↦ (x, inl refl, h)
  | inr h ↦ let r = mem_of_flat f y xs h in (r.0, inr r.1, r.2)
]

pub mem_flat : {A B : Type 0} (f : A → List B) (y : B) (x : A) (xs : List A) → Mem x xs → Mem y (f x) → Mem y (flat_map f xs)
mem_flat f y x [] m h = absurd m
mem_flat f y x (z ∷ xs) (inl e) h = mem_left y (f z) (flat_map f xs) (subst (λ a. Mem y (f a)) e h)
mem_flat f y x (z ∷ xs) (inr m) h = mem_right y (f z) (flat_map f xs) (mem_flat f y x xs m h)

behind : {B : Type 0} (y : B) (r : Option B) (ys : List B) → Mem y ys → Mem y (cons_option r ys)
behind y None ys h = h
behind y (Some w) ys h = inr h

by_first : {B P : Type 0} (y : B) (r : Option B) (ys : List B) → Mem y (cons_option r ys) → ((w : B) → r ≡ Some w → y ≡ w → P) → (Mem y ys → P) → P
by_first y None ys m here there = there m
by_first y (Some w) ys (inl e) here there = here w refl e
by_first y (Some w) ys (inr m) here there = there m

-- what is made of some elements
pub mem_some : {A B : Type 0} (f : A → Option B) (x : A) (y : B) (xs : List A) → Mem x xs → f x ≡ Some y → Mem y (filter_map f xs)
mem_some f x y [] m is = absurd m
mem_some f x y (z ∷ xs) (inl e) is = subst (λ r. Mem y (cons_option r (filter_map f xs))) (sym (ap f (sym e) ∙ is)) (inl refl)
mem_some f x y (z ∷ xs) (inr m) is = behind y (f z) (filter_map f xs) (mem_some f x y xs m is)

pub mem_of_some : {A B : Type 0} (f : A → Option B) (y : B) (xs : List A) → Mem y (filter_map f xs) → (x : A) × Mem x xs × (f x ≡ Some y)
mem_of_some f y [] m = absurd m
mem_of_some f y (z ∷ xs) m =
    by_first y (f z) (filter_map f xs) m (λ w e is. (z, inl refl, e ∙ ap Some (sym is))) (λ h. let r = mem_of_some f y xs h in (r.0, inr r.1, r.2))

pub mem_any : {A : Type 0} (p : A → Bool) (x : A) (xs : List A) → Mem x xs → p x ≡ true → list_any p xs ≡ true
mem_any p x [] m is = absurd m
mem_any p x (y ∷ xs) (inl e) is = ap (λ b. b || list_any p xs) (ap p (sym e) ∙ is)
mem_any p x (y ∷ xs) (inr m) is = ap (λ b. p y || b) (mem_any p x xs m is) ∙ or_true (p y)
  where
    or_true : (b : Bool) → (b || true) ≡ true
    or_true true = refl
    or_true false = refl

pub all_of : {A : Type 0} (P : A → Type 0) (xs : List A) → ((x : A) → Mem x xs → P x) → All P xs
all_of P [] h = All-nil P
all_of P (x ∷ xs) h = All-cons P x xs (h x (inl refl)) (all_of P xs (λ y m. h y (inr m)))

-- options with the same values are equal
pub both_options : {A : Type 0} (r s : Option A) → ((x : A) → r ≡ Some x → s ≡ Some x) → ((x : A) → s ≡ Some x → r ≡ Some x) → r ≡ s
both_options None None f g = refl
both_options None (Some y) f g = g y refl
both_options (Some x) s f g = sym (f x refl)

pub both_bools : (a b : Bool) → (a ≡ true → b ≡ true) → (b ≡ true → a ≡ true) → a ≡ b
both_bools true b f g = sym (f refl)
both_bools false true f g = g refl
both_bools false false f g = refl
