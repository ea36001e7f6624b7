-- Rows that a DELETE leaves, and a test on a column that is NULL.
use Rattle.book_tables.proofs.Common.{◌≡◌, ◌⊎◌, inl, inr, ℕ, ℤ, Bool, true, false, not, cond, ◌||◌, List, [], ◌∷◌, find, filter, Some, None, refl, sym, ap, subst, ◌∙◌, true≢false, AllByRecursion, list_any, Null, Int, Text, Row, column, Has, delete_where, has, PassesOnce}
use Rattle.std.specs.Option.{option_to_list}
use Rattle.sqlite.specs.Ops.{binary}
use Rattle.book_office_values.specs.declared.paths.Path.TheVariants as path
use Rattle.book_tables_rows.proofs.Once.{filter_finds}

pub none_stays : (q p : Row → Bool) (xs : List Row) → find q xs ≡ None → find q (delete_where p xs) ≡ None
none_stays q p [] h = refl
none_stays q p (x ∷ xs) h = go (q x) (p x) refl refl (none_stays q p xs)
  where
    go : (a b : Bool) → q x ≡ a → p x ≡ b → (find q xs ≡ None → find q (delete_where p xs) ≡ None) → find q (delete_where p (x ∷ xs)) ≡ None
    go true b e f more = absurd (let some = rw e at h in cc)
    go false true e f more = rw f (more (rw e at h))
    go false false e f more = rw f (rw e (more (rw e at h)))

pub stays_in : (p : Row → Bool) (xs : List Row) (x : Row) → Has xs x → p x ≡ false → Has (delete_where p xs) x
stays_in p [] x h out = absurd h
stays_in p (y ∷ xs) x h out = go (p y) refl h (stays_in p xs x)
  where
    go : (b : Bool) → p y ≡ b → (x ≡ y) ⊎ Has xs x → (Has xs x → p x ≡ false → Has (delete_where p xs) x) → Has (cond (not b) (y ∷ delete_where p xs) (delete_where p xs)) x
    go true e (inl is) more = absurd (true≢false (sym e ∙ ap p (sym is) ∙ out))
    go true e (inr h) more = more h out
    go false e (inl is) more = inl is
    go false e (inr h) more = inr (more h out)

pub filter-delete_where : (q p : Row → Bool) (xs : List Row) → AllByRecursion (λ x. q x ≡ true → p x ≡ false) xs → filter q (delete_where p xs) ≡ filter q xs
filter-delete_where q p [] h = refl
filter-delete_where q p (x ∷ xs) h = go (p x) (q x) refl refl (filter-delete_where q p xs h.1)
  where
    go : (a b : Bool) → p x ≡ a → q x ≡ b → filter q (delete_where p xs) ≡ filter q xs → filter q (delete_where p (x ∷ xs)) ≡ filter q (x ∷ xs)
    go true true e f more = absurd (true≢false (sym e ∙ h.0 f))
    go true false e f more = simp (e, f) more
    go false true e f more = simp (e, f) (ap (λ l. x ∷ l) more)
    go false false e f more = simp (e, f) more

pub has_filtered : (p : Row → Bool) (xs : List Row) (x : Row) → Has xs x → p x ≡ true → Has (filter p xs) x
has_filtered p [] x h passes = absurd h
has_filtered p (y ∷ xs) x h passes = go (p y) refl h (has_filtered p xs x)
  where
    go : (b : Bool) → p y ≡ b → (x ≡ y) ⊎ Has xs x → (Has xs x → p x ≡ true → Has (filter p xs) x) → Has (cond b (y ∷ filter p xs) (filter p xs)) x
    go true e (inl is) more = inl is
    go true e (inr h) more = inr (more h passes)
    go false e (inl is) more = absurd (true≢false (sym passes ∙ ap p is ∙ e))
    go false e (inr h) more = more h passes

-- the row that is found is the only one that passes
pub one_found : (p : Row → Bool) (xs : List Row) (x found : Row) → PassesOnce p xs → find p xs ≡ Some found → Has xs x → p x ≡ true → x ≡ found
one_found p xs x found once is there passes =
    let all : filter p xs ≡ found ∷ [] = filter_finds p xs once ∙ ap option_to_list is in
    elim (subst (λ l. Has l x) all (has_filtered p xs x there passes)) [ inl e ↦ e | inr none ↦ absurd none ]

pub any_has : (p : Row → Bool) (xs : List Row) (x : Row) → Has xs x → p x ≡ true → list_any p xs ≡ true
any_has p [] x h passes = absurd h
any_has p (y ∷ xs) x (inl is) passes = rw (ap p (sym is) ∙ passes) refl
any_has p (y ∷ xs) x (inr h) passes = elim (p y) as (λ t. (t || list_any p xs) ≡ true) [ true ↦ refl | false ↦ any_has p xs x h passes ]

pub has_null : (place : ℕ) (row : Row) (n : ℤ) → column row place ≡ Null → has place (Int n) row ≡ false
unfolding binary
has_null place row n is = rw is refl

pub same_words : (a b : List ℕ) → Text a ≡ Text b → a ≡ b
same_words a b e = cc

pub card_book : {a b c d : List ℕ} → path.Card a c ≡ path.Card b d → a ≡ b
card_book e = cc

-- where none is found, none is deleted
pub none_deleted : (p : Row → Bool) (xs : List Row) → find p xs ≡ None → delete_where p xs ≡ xs
none_deleted p [] h = refl
none_deleted p (x ∷ xs) h = go (p x) refl (none_deleted p xs)
  where
    go : (b : Bool) → p x ≡ b → (find p xs ≡ None → delete_where p xs ≡ xs) → delete_where p (x ∷ xs) ≡ x ∷ xs
    go true e more = absurd (let some = rw e at h in cc)
    go false e more = rw e (ap (λ l. x ∷ l) (more (rw e at h)))

pub book_name : {a b : List ℕ} → path.Book a ≡ path.Book b → a ≡ b
book_name e = cc

pub book_or_card : {a b c : List ℕ} → path.Book a ≡ path.Card b c → ⊥
book_or_card e = cc

pub card_name : {a b c d : List ℕ} → path.Card a c ≡ path.Card b d → c ≡ d
card_name e = cc
