-- How many elements of a list pass a test, against how many keys are one.
use Rattle.book_tables_opening.proofs.Common.{◌≡◌, ◌≢◌, inl, inr, ℕ, suc, ◌+◌, ◌≤◌, Bool, true, false, cond, ◌&&◌, List, [], ◌∷◌, ◌++◌, map, filter, find, length, Option, Some, None, sym, refl, ap, subst, ◌∙◌, arith, Has, has_filtered, int_itself, has_map, Key, same_key, AreAtMost}
use Rattle.std.proofs.lemmas.List.Sums.{length-filter}
use Rattle.std.specs.Option.{option_to_list}
use Rattle.book_tables_rows.proofs.Once.{PassesOnce, filter_finds}

module _ {A B K : Type 0} (s : A → B) (f : B → K) (k : K → Bool) (q : A → Bool) where
  -- where each that passes has the key, there are no more of them than keys
  pub count_keys : (xs : List A) → ((x : A) → Has xs x → q x ≡ true → k (f (s x)) ≡ true) → length (filter q xs) ≤ length (filter k (map f (map s xs)))
  count_keys [] h = omega arith
  count_keys (x ∷ xs) h = go (count_keys xs (λ y there. h y (inr there))) (q x) refl (k (f (s x))) refl
    where
      go : length (filter q xs) ≤ length (filter k (map f (map s xs))) → (b : Bool) → q x ≡ b → (c : Bool) → k (f (s x)) ≡ c
          → length (cond (q x) (x ∷ filter q xs) (filter q xs)) ≤ length (cond (k (f (s x))) (f (s x) ∷ filter k (map f (map s xs))) (filter k (map f (map s xs))))
      go more true e c is = rw (e, h x (inl refl) e) (omega arith)
      go more false e true is = rw (e, is) (omega arith)
      go more false e false is = rw (e, is) more

  -- the same, of the keys of those that pass another test
  pub count_filtered : (p : B → Bool) (xs : List A) → ((x : A) → Has xs x → p (s x) ≡ true → q x ≡ true → k (f (s x)) ≡ true)
      → length (filter (λ x. p (s x) && q x) xs) ≤ length (filter k (map f (filter p (map s xs))))
  count_filtered p [] h = omega arith
  count_filtered p (x ∷ xs) h = go (count_filtered p xs (λ y there. h y (inr there))) (p (s x)) refl (q x) refl (k (f (s x))) refl
    where
      go : length (filter (λ x. p (s x) && q x) xs) ≤ length (filter k (map f (filter p (map s xs)))) → (a : Bool) → p (s x) ≡ a → (b : Bool) → q x ≡ b → (c : Bool) → k (f (s x)) ≡ c
          → length (cond (p (s x) && q x) (x ∷ filter (λ x. p (s x) && q x) xs) (filter (λ x. p (s x) && q x) xs)) ≤ length (filter k (map f (cond (p (s x)) (s x ∷ filter p (map s xs)) (filter p (map s xs)))))
      go more false d b e c is = rw d more
      go more true d true e c is = rw (d, e, h x (inl refl) d e) (omega arith)
      go more true d false e true is = rw (d, e, is) (omega arith)
      go more true d false e false is = rw (d, e, is) more

-- as many shown elements pass a test as elements whose shown ones do
pub count_shown : {A B : Type 0} (s : A → B) (p : B → Bool) (xs : List A) → length (filter p (map s xs)) ≡ length (filter (λ x. p (s x)) xs)
count_shown s p [] = refl
count_shown s p (x ∷ xs) = go (count_shown s p xs) (p (s x)) refl
  where
    go : length (filter p (map s xs)) ≡ length (filter (λ x. p (s x)) xs) → (a : Bool) → p (s x) ≡ a
        → length (cond (p (s x)) (s x ∷ filter p (map s xs)) (filter p (map s xs))) ≡ length (cond (p (s x)) (x ∷ filter (λ x. p (s x)) xs) (filter (λ x. p (s x)) xs))
    go more true d = rw d (ap suc more)
    go more false d = rw d more

module _ {A : Type 0} (p : A → Bool) where
  filter_grows : (x : A) (xs : List A) → length (filter p xs) ≤ length (filter p (x ∷ xs))
  filter_grows x xs = elim (p x) as (λ b. length (filter p xs) ≤ length (cond b (x ∷ filter p xs) (filter p xs))) [ true ↦ omega arith | false ↦ omega arith ]

  filter_takes : (x : A) (xs : List A) → p x ≡ true → length (filter p (x ∷ xs)) ≡ length (filter p xs) + 1
  filter_takes x xs is = rw is (omega arith)

  -- one of the list passes
  pub count_one : (xs : List A) (a : A) → Has xs a → p a ≡ true → 1 ≤ length (filter p xs)
  count_one [] a h is = absurd h
  count_one (x ∷ xs) a (inl here) is = let n = filter_takes x xs (ap p (sym here) ∙ is) in omega arith
  count_one (x ∷ xs) a (inr there) is = let n = filter_grows x xs in let m = count_one xs a there is in omega arith

  -- those of two lists pass
  pub count_append : (xs ys : List A) → length (filter p (xs ++ ys)) ≡ length (filter p xs) + length (filter p ys)
  count_append [] ys = omega arith
  count_append (x ∷ xs) ys = go (count_append xs ys) (p x) refl
    where
      go : length (filter p (xs ++ ys)) ≡ length (filter p xs) + length (filter p ys) → (b : Bool) → p x ≡ b
          → length (cond (p x) (x ∷ filter p (xs ++ ys)) (filter p (xs ++ ys))) ≡ length (cond (p x) (x ∷ filter p xs) (filter p xs)) + length (filter p ys)
      go more true is = rw is (omega arith)
      go more false is = rw is more

-- two elements of one key
pub count_two : {A K : Type 0} (f : A → K) (k : K → Bool) (xs : List A) (a b : A) → Has xs a → Has xs b → a ≢ b → k (f a) ≡ true → k (f b) ≡ true → 2 ≤ length (filter k (map f xs))
count_two f k [] a b in_a in_b apart is_a is_b = absurd in_a
count_two f k (x ∷ xs) a b (inl here) (inl also) apart is_a is_b = absurd (apart (here ∙ sym also))
count_two f k (x ∷ xs) a b (inl here) (inr there) apart is_a is_b =
    let n = filter_takes k (f x) (map f xs) (ap (λ y. k (f y)) (sym here) ∙ is_a) in
    let m = count_one k (map f xs) (f b) (has_map f xs b there) is_b in
    omega arith
count_two f k (x ∷ xs) a b (inr there) (inl here) apart is_a is_b =
    let n = filter_takes k (f x) (map f xs) (ap (λ y. k (f y)) (sym here) ∙ is_b) in
    let m = count_one k (map f xs) (f a) (has_map f xs a there) is_a in
    omega arith
count_two f k (x ∷ xs) a b (inr in_a) (inr in_b) apart is_a is_b =
    let n = filter_grows k (f x) (map f xs) in
    let m = count_two f k xs a b in_a in_b apart is_a is_b in
    omega arith

-- ---- keys

pub key_itself : (k : Key) → same_key k k ≡ true
key_itself (a, b) = (λ i. int_itself a i && int_itself b i)

pub same_keys : (k l : Key) → k ≡ l → same_key k l ≡ true
same_keys k l is = subst (λ l. same_key k l ≡ true) is (key_itself k)

pub at_most : (limit : ℕ) (keys : List Key) → AreAtMost limit keys → (k : Key) → length (filter (same_key k) keys) ≤ limit
at_most limit keys few k = subst (λ n. n ≤ limit) (sym (length-filter (same_key k) keys)) (few k)

-- ---- bounds

module _ {A : Type 0} (p : A → Bool) where
  -- none passes, or one does
  pub count_cases : {P : Type 0} (xs : List A) → (length (filter p xs) ≡ 0 → P) → ((x : A) → Has xs x → p x ≡ true → P) → P
  count_cases {P = P} xs none some = go (filter p xs) refl
    where
      go : (ys : List A) → filter p xs ≡ ys → P
      go [] e = none (ap length e)
      go (y ∷ ys) e = let it = has_filtered p xs y (subst (λ l. Has l y) (sym e) (inl refl)) in some y it.0 it.1

  -- a limit that holds where one passes holds
  pub count_bounded : (limit : ℕ) (xs : List A) → ((x : A) → Has xs x → p x ≡ true → length (filter p xs) ≤ limit) → length (filter p xs) ≤ limit
  count_bounded limit xs h = count_cases xs (λ none. omega (arith, none)) h

  -- at most one passes where no two do
  pub count_once : (xs : List A) → PassesOnce p xs → length (filter p xs) ≤ 1
  count_once xs once = subst (λ ys. length ys ≤ 1) (sym (filter_finds p xs once)) (go (find p xs))
    where
      go : (r : Option A) → length (option_to_list r) ≤ 1
      go None = omega arith
      go (Some x) = omega arith

  -- those that pass one test pass another
  pub count_weaker : (q : A → Bool) (xs : List A) → ((x : A) → Has xs x → p x ≡ true → q x ≡ true) → length (filter p xs) ≤ length (filter q xs)
  count_weaker q [] h = omega arith
  count_weaker q (x ∷ xs) h = go (count_weaker q xs (λ y there. h y (inr there))) (p x) refl (q x) refl
    where
      go : length (filter p xs) ≤ length (filter q xs) → (b : Bool) → p x ≡ b → (c : Bool) → q x ≡ c
          → length (cond (p x) (x ∷ filter p xs) (filter p xs)) ≤ length (cond (q x) (x ∷ filter q xs) (filter q xs))
      go more true e c is = rw (e, h x (inl refl) e) (omega arith)
      go more false e true is = rw (e, is) (omega arith)
      go more false e false is = rw (e, is) more

-- a test on what another test picked
pub count_picked : {A : Type 0} (p q r : A → Bool) (xs : List A) → ((x : A) → Has xs x → p x ≡ true → q x ≡ true → r x ≡ true) → length (filter q (filter p xs)) ≤ length (filter r xs)
count_picked p q r [] h = omega arith
count_picked p q r (x ∷ xs) h = go (count_picked p q r xs (λ y there. h y (inr there))) (p x) refl (q x) refl (r x) refl
  where
    go : length (filter q (filter p xs)) ≤ length (filter r xs) → (a : Bool) → p x ≡ a → (b : Bool) → q x ≡ b → (c : Bool) → r x ≡ c
        → length (filter q (cond (p x) (x ∷ filter p xs) (filter p xs))) ≤ length (cond (r x) (x ∷ filter r xs) (filter r xs))
    go more true d true e c is = rw (d, e, h x (inl refl) d e) (omega arith)
    go more true d false e true is = rw (d, e, is) (omega arith)
    go more true d false e false is = rw (d, e, is) more
    go more false d b e true is = rw (d, is) (omega arith)
    go more false d b e false is = rw (d, is) more

pub are_at_most : (limit : ℕ) (keys : List Key) → ((k : Key) → length (filter (same_key k) keys) ≤ limit) → AreAtMost limit keys
are_at_most limit keys few k = subst (λ n. n ≤ limit) (length-filter (same_key k) keys) (few k)
