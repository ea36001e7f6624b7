-- Filtered lists.
use Rattle.book_office_sync.proofs.Common.{◌≡◌, inl, inr, Bool, true, false, cond, List, [], ◌∷◌, ◌++◌, filter, refl, sym, ap, ◌∙◌, subst, Mem}
use Rattle.std.proofs.Common.{true≢false}

pub mem_filter : {A : Type 0} (p : A → Bool) (x : A) (xs : List A) → Mem x xs → p x ≡ true → Mem x (filter p xs)
mem_filter p x [] m t = m
mem_filter p x (y ∷ ys) m t =
    elim (p y) as (λ b. p y ≡ b → Mem x (cond b (y ∷ filter p ys) (filter p ys))) [
      | true ↦ λ _. elim m [ inl is ↦ inl is | inr r ↦ inr (mem_filter p x ys r t) ]
      | false ↦ λ f. elim m [ inl is ↦ absurd (let e : p y ≡ true = subst (λ z. p z ≡ true) is t in cc) | inr r ↦ mem_filter p x ys r t ]
    ] refl

pub filter_mem : {A : Type 0} (p : A → Bool) (x : A) (xs : List A) → Mem x (filter p xs) → Mem x xs
filter_mem p x [] m = m
filter_mem p x (y ∷ ys) m =
    elim (p y) as (λ b. Mem x (cond b (y ∷ filter p ys) (filter p ys)) → Mem x (y ∷ ys)) [
      | true ↦ elim [ inl is ↦ inl is | inr r ↦ inr (filter_mem p x ys r) ]
      | false ↦ λ r. inr (filter_mem p x ys r)
    ] m

-- where each that passes one test passes another, the other changes nothing
pub passed_twice : {A : Type 0} (p q : A → Bool) → ((x : A) → p x ≡ true → q x ≡ true) → (xs : List A) → filter p (filter q xs) ≡ filter p xs
passed_twice p q weaker [] = refl
passed_twice p q weaker (x ∷ xs) = elim (q x) as (λ t. q x ≡ t → filter p (cond t (x ∷ filter q xs) (filter q xs)) ≡ cond (p x) (x ∷ filter p xs) (filter p xs)) [
  | true ↦ λ _. ap (λ l. cond (p x) (x ∷ l) l) (passed_twice p q weaker xs)
  | false ↦ λ fails. elim (p x) as (λ t. p x ≡ t → filter p (filter q xs) ≡ cond t (x ∷ filter p xs) (filter p xs)) [
    | true ↦ λ passes. let clash : true ≡ false = sym (weaker x passes) ∙ fails in absurd (true≢false clash)
    | false ↦ λ _. passed_twice p q weaker xs
  ] refl
] refl

pub all_kept : {A : Type 0} (xs : List A) → filter (λ _. true) xs ≡ xs
all_kept [] = refl
all_kept (x ∷ xs) = ap (λ l. x ∷ l) (all_kept xs)

pub filter_parts : {A : Type 0} (p : A → Bool) (xs ys : List A) → filter p (xs ++ ys) ≡ filter p xs ++ filter p ys
filter_parts p [] ys = refl
filter_parts p (x ∷ xs) ys = go (p x) (filter_parts p xs ys)
  where
    go : (b : Bool) → filter p (xs ++ ys) ≡ filter p xs ++ filter p ys → cond b (x ∷ filter p (xs ++ ys)) (filter p (xs ++ ys)) ≡ cond b (x ∷ filter p xs) (filter p xs) ++ filter p ys
    go true e = ap (λ l. x ∷ l) e
    go false e = e
