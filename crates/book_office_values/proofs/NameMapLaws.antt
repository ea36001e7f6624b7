-- Laws of finite maps from names.
use Rattle.book_office_values.proofs.Common.{◌≡◌, ℕ, ◌+◌, ◌<◌, ◌≤◌, ◌⊎◌, inl, inr, List, [], ◌∷◌, Bool, true, false, cond, Option, Some, None, refl, sym, ap, ◌∙◌, subst, arith, is_eq, eq_by_cmp_equiv, nat_list_cmp_total, get, insert, remove, len, entries, find, get-insert, get-remove, same_map, nat_cmp-IsAntisymmetric, IsAntisymmetric, name_cmp, NamesTo}
use Rattle.std.proofs.Common.{◌-◌, is_some, OnSome}
use Rattle.std.specs.List.{AllZip}
use Rattle.std.specs.FinMap.{get-entries, len-insert, len-remove, slice_cmp-IsAntisymmetric}
pub use Rattle.book_lists.proofs.Elements.{tied}

-- names that tie are one
pub names_apart : IsAntisymmetric name_cmp
names_apart = slice_cmp-IsAntisymmetric nat_cmp-IsAntisymmetric

-- whether two names are one
abbrev pub same : List ℕ → List ℕ → Bool
same a b = is_eq (name_cmp a b)

pub is_same : (a b : List ℕ) → same a b ≡ true → a ≡ b
is_same a b e = names_apart a b (tied _ e)

pub same_itself : (a : List ℕ) → same a a ≡ true
same_itself a = (eq_by_cmp_equiv nat_list_cmp_total).refl a

-- a proof by whether two names are one
pub by_same : (a b : List ℕ) (P : Bool → Type 0) → (a ≡ b → P true) → P false → P (same a b)
by_same a b P here other =
    elim (same a b) as (λ t. same a b ≡ t → P t) [ true ↦ λ e. here (is_same a b e) | false ↦ λ _. other ] refl

-- the same, where both cases know it
pub by_names : (a b : List ℕ) (P : Bool → Type 0) → (a ≡ b → P true) → ((a ≡ b → ⊥) → P false) → P (same a b)
by_names a b P here other = elim (same a b) as (λ t. same a b ≡ t → P t) [
  | true ↦ λ e. here (is_same a b e)
  | false ↦ λ e. other (λ is. let clash : true ≡ false = sym (same_itself b) ∙ ap (λ x. same x b) (sym is) ∙ e in absurd cc)
] refl

module _ {V : Type 0} (m : NamesTo V) (k : List ℕ) where
  -- what a map has after an insertion or a removal
  pub put_at : (v : V) (q : List ℕ) → get (insert m k v) q ≡ cond (same q k) (Some v) (get m q)
  put_at v q = get-insert nat_list_cmp_total m k v q

  pub removed_at : (q : List ℕ) → get (remove m k) q ≡ cond (same q k) None (get m q)
  removed_at q = get-remove nat_list_cmp_total m k q

  -- to insert what is there changes nothing
  pub insert_same : (v : V) → get m k ≡ Some v → insert m k v ≡ m
  insert_same v e = same_map nat_list_cmp_total names_apart _ _ (λ q.
      put_at v q ∙ by_same q k (λ b. cond b (Some v) (get m q) ≡ get m q) (λ is. sym e ∙ ap (get m) (sym is)) refl)

  -- to remove what is not there changes nothing
  pub remove_absent : get m k ≡ None → remove m k ≡ m
  remove_absent e = same_map nat_list_cmp_total names_apart _ _ (λ q.
      removed_at q ∙ by_same q k (λ b. cond b None (get m q) ≡ get m q) (λ is. sym e ∙ ap (get m) (sym is)) refl)

  -- what was inserted at a new name and is removed leaves the map as it was
  pub undone : (v : V) → get m k ≡ None → remove (insert m k v) k ≡ m
  undone v e = same_map nat_list_cmp_total names_apart _ _ (λ q.
      get-remove nat_list_cmp_total (insert m k v) k q ∙ ap (cond (same q k) None) (put_at v q)
      ∙ by_same q k (λ b. cond b None (cond b (Some v) (get m q)) ≡ get m q) (λ is. sym e ∙ ap (get m) (sym is)) refl)

  -- a map with room for a name, or with the name, has no more than its most after an insertion
  pub len_put : (v : V) (most : ℕ) → ((is_some (get m k) ≡ true) × (len m ≤ most)) ⊎ (len m < most) → len (insert m k v) ≤ most
  len_put v most room =
      rw (len-insert nat_list_cmp_total m k v) (elim (is_some (get m k)) as (λ b. ((b ≡ true) × (len m ≤ most)) ⊎ (len m < most) → cond b (len m) (len m + 1) ≤ most) [
        | true ↦ elim [ inl h ↦ h.1 | inr h ↦ omega (arith, h) ]
        | false ↦ elim [ inl h ↦ absurd (let e = h.0 in cc) | inr h ↦ omega (arith, h) ]
      ] room)

  -- a removal makes a map no larger
  pub len_removed : len (remove m k) ≤ len m
  len_removed =
      rw (len-remove nat_list_cmp_total m k) (elim (is_some (get m k)) as (λ b. cond b (len m - 1) (len m) ≤ len m) [ true ↦ omega arith | false ↦ omega arith ])

  -- the removal of a name that is there makes it smaller by one
  pub len_removed_there : is_some (get m k) ≡ true → len (remove m k) ≡ len m - 1
  len_removed_there there = len-remove nat_list_cmp_total m k ∙ ap (λ b. cond b (len m - 1) (len m)) there

-- what is said where there is a value
pub at_some : {B P : Type 0} (r : Option B) (x : B) → r ≡ Some x → OnSome r P → P
at_some {P = P} r x e h = subst (λ o. OnSome o P) e h

-- ---- copies

copied_entries : {V : Type 0} (D : V → V → Type 0) → ((x y : V) → D x y → y ≡ x)
    → (es fs : List (List ℕ × V)) → AllZip (λ p q. (q.0 ≡ p.0) × D p.1 q.1) es fs → fs ≡ es
copied_entries D same [] [] h = refl
copied_entries D same [] (f ∷ fs) h = absurd h
copied_entries D same (e ∷ es) [] h = absurd h
copied_entries D same (e ∷ es) (f ∷ fs) h = λ i. (h.0.0 i, same e.1 f.1 h.0.1 i) ∷ copied_entries D same es fs h.1 i

-- where each copy of a value is the value, the copy of a map is the map
pub copied_map : {V : Type 0} (D : V → V → Type 0) → ((x y : V) → D x y → y ≡ x)
    → (m n : NamesTo V) → AllZip (λ p q. (q.0 ≡ p.0) × D p.1 q.1) (entries m) (entries n) → n ≡ m
copied_map D same_value m n h = same_map nat_list_cmp_total names_apart n m (λ q.
    get-entries n q ∙ ap (find name_cmp q) (copied_entries D same_value (entries m) (entries n) h) ∙ sym (get-entries m q))

-- a second choice by one test makes no difference
pub chosen_once : {A : Type 0} (x y z : A) (b : Bool) → cond b x (cond b y z) ≡ cond b x z
chosen_once x y z true = refl
chosen_once x y z false = refl

-- a name whose value was taken away and is set again has that value
pub put_back : {V : Type 0} (m : NamesTo V) (k : List ℕ) (v : V) → insert (remove m k) k v ≡ insert m k v
put_back m k v = same_map nat_list_cmp_total names_apart _ _ (λ q.
    put_at (remove m k) k v q ∙ ap (cond (same q k) (Some v)) (removed_at m k q)
    ∙ chosen_once _ _ _ (same q k) ∙ sym (put_at m k v q))
