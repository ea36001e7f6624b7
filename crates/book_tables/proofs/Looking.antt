-- What is found in a list of rows after one of its writes, and what a test on a column tells.
use Rattle.book_tables.proofs.Common.{◌≡◌, inl, inr, ℕ, ℤ, Bool, true, false, cond, List, [], ◌∷◌, find, Some, None, option_map, refl, sym, ap, ◌∙◌, true≢false, Ordering, Less, Equal, Greater, is_eq, int_cmp, AllByRecursion, Int, Text, Row, column, Has, value_cmp-Int, update_where, delete_where, name_cmp, same, has}
use Rattle.std.proofs.Common.{int_eq}
use Rattle.sqlite.specs.Ops.{binary, is_true, from_truth}
use Rattle.sqlite_value.proofs.OrderLemmas.{value_cmp-Text}
use Rattle.sqlite_keyed.proofs.KeyedLemmas.{same_int}

-- ---- lists

module _ {X : Type 0} where
  pub found_has : (p : X → Bool) (xs : List X) (x : X) → find p xs ≡ Some x → Has xs x × (p x ≡ true)
  found_has p [] x h = absurd (cc)
  found_has p (y ∷ xs) x h = go (found_has p xs x) (p y) refl
    where
      go : (find p xs ≡ Some x → Has xs x × (p x ≡ true)) → (b : Bool) → p y ≡ b → Has (y ∷ xs) x × (p x ≡ true)
      go more true e = let same : y ≡ x = let some = rw e at h in cc in (inl (sym same), ap p (sym same) ∙ e)
      go more false e = let rest = more (rw e at h) in (inr rest.0, rest.1)

  pub find-update_where : (q p : X → Bool) (f : X → X) → ((x : X) → q (f x) ≡ q x) → (xs : List X)
      → find q (update_where p f xs) ≡ option_map (λ x. cond (p x) (f x) x) (find q xs)
  find-update_where q p f keeps [] = refl
  find-update_where q p f keeps (x ∷ xs) = go (p x) (q x) refl refl (find-update_where q p f keeps xs)
    where
      go : (a b : Bool) → p x ≡ a → q x ≡ b → find q (update_where p f xs) ≡ option_map (λ y. cond (p y) (f y) y) (find q xs)
          → find q (update_where p f (x ∷ xs)) ≡ option_map (λ y. cond (p y) (f y) y) (find q (x ∷ xs))
      go true true e h more = simp (e, keeps x, h)
      go true false e h more = simp (e, keeps x, h) more
      go false true e h more = simp (e, h)
      go false false e h more = simp (e, h) more

  pub find-delete_where : (q p : X → Bool) → (xs : List X) → AllByRecursion (λ x. q x ≡ true → p x ≡ false) xs → find q (delete_where p xs) ≡ find q xs
  find-delete_where q p [] apart = refl
  find-delete_where q p (x ∷ xs) apart = go (p x) (q x) refl refl (find-delete_where q p xs apart.1)
    where
      go : (a b : Bool) → p x ≡ a → q x ≡ b → find q (delete_where p xs) ≡ find q xs → find q (delete_where p (x ∷ xs)) ≡ find q (x ∷ xs)
      go true true e h more = absurd (true≢false (sym e ∙ apart.0 h))
      go true false e h more = simp (e, h) more
      go false true e h more = simp (e, h)
      go false false e h more = simp (e, h) more

  -- what was deleted isn't found
  pub find-deleted : (q p : X → Bool) → (xs : List X) → AllByRecursion (λ x. q x ≡ true → p x ≡ true) xs → find q (delete_where p xs) ≡ None
  find-deleted q p [] all = refl
  find-deleted q p (x ∷ xs) all = go (p x) (q x) refl refl (find-deleted q p xs all.1)
    where
      go : (a b : Bool) → p x ≡ a → q x ≡ b → find q (delete_where p xs) ≡ None → find q (delete_where p (x ∷ xs)) ≡ None
      go true b e h more = simp e more
      go false true e h more = absurd (true≢false (sym (all.0 h) ∙ e))
      go false false e h more = simp (e, h) more

  pub all_of_all : (P : X → Type 0) (xs : List X) → ((x : X) → P x) → AllByRecursion P xs
  all_of_all P [] h = tt
  all_of_all P (x ∷ xs) h = (h x, all_of_all P xs h)

-- ---- a test on a column

told : (o : Ordering) → is_true (from_truth (Some (is_eq o))) ≡ is_eq o
told Less = refl
told Equal = refl
told Greater = refl

pub has_text : (place : ℕ) (row : Row) (text other : List ℕ) → column row place ≡ Text text → has place (Text other) row ≡ same text other
unfolding binary
has_text place row text other is = rw (is, value_cmp-Text text other) (told (name_cmp text other))

pub has_int : (place : ℕ) (row : Row) (n m : ℤ) → column row place ≡ Int n → has place (Int m) row ≡ int_eq n m
unfolding binary
has_int place row n m is = rw (is, value_cmp-Int n m) (told (int_cmp n m))

pub same_ints : (place : ℕ) (row : Row) (n m : ℤ) → column row place ≡ Int n → has place (Int m) row ≡ true → n ≡ m
same_ints place row n m is h = same_int n m (sym (has_int place row n m is) ∙ h)
