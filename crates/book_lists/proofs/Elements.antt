-- Elements of lists, and elements that tie.
use Rattle.book_lists.proofs.Common.{is_eq, ◌≡◌, ◌⊎◌, inl, inr, List, [], ◌∷◌, map, true, refl, ap}
use Rattle.std.specs.declared.cmp.Ordering.{Ordering}
use Rattle.std.specs.declared.cmp.Ordering.TheVariants.{Less, Equal, Greater}

-- x is among the elements
abbrev pub Mem : {A : Type 0} → A → List A → Type 0
Mem x [] = ⊥
Mem x (y ∷ ys) = (x ≡ y) ⊎ Mem x ys

pub mem_map : {A B : Type 0} (f : A → B) (x : A) (xs : List A) → Mem x xs → Mem (f x) (map f xs)
mem_map f x [] m = absurd m
mem_map f x (y ∷ ys) m = elim m [ inl is ↦ inl (ap f is) | inr r ↦ inr (mem_map f x ys r) ]

pub tied : (r : Ordering) → is_eq r ≡ true → r ≡ Equal
tied Less e = cc
tied Equal e = refl
tied Greater e = cc
