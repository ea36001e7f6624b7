-- What a map of names answers after a change at one name.
use Rattle.book_office_values.proofs.Common.{◌≡◌, ◌≢◌, ℕ, ◌+◌, List, true, cond, Option, Some, None, refl, sym, ap, ◌∙◌, subst, nat_list_cmp_total, get, insert, remove, len, name_cmp, changed_if, NamesTo}
use Rattle.std.proofs.Common.{is_some, option_map}
use Rattle.std.specs.FinMap.{empty, get-empty, len-insert}
use Rattle.book_office_values.specs.Names.{changed_at}
use Rattle.book_office_values.proofs.NameMapLaws.{by_names, put_at, removed_at}

pub some_apart : {A P : Type 0} {x : A} → Some x ≡ None → P
some_apart e = absurd cc

-- an empty map has no name
pub nothing_in : {V P : Type 0} (q : List ℕ) (v : V) → get (empty {X = V} {R = name_cmp}) q ≡ Some v → P
nothing_in q v e = some_apart (sym e ∙ get-empty name_cmp q)

-- by whether there is something
pub by_option : {A P : Type 0} (r : Option A) → (r ≡ None → P) → ((x : A) → r ≡ Some x → P) → P
by_option {P = P} r none some = elim r as (λ s. r ≡ s → P) [ None ↦ λ e. none e | Some x ↦ λ e. some x e ] refl

pub where_some : {A P : Type 0} (r : Option A) → r ≢ None → ((x : A) → r ≡ Some x → P) → P
where_some r h some = by_option r (λ e. absurd (h e)) some

pub is_there : {A : Type 0} (r : Option A) → r ≢ None → is_some r ≡ true
is_there None h = absurd (h refl)
is_there (Some x) h = refl

module _ {V : Type 0} (m : NamesTo V) (k : List ℕ) where
  -- by whether a name is the one at which a value was put
  pub by_put : (v : V) (q : List ℕ) (P : Option V → Type 0) → (q ≡ k → P (Some v)) → (q ≢ k → P (get m q)) → P (get (insert m k v) q)
  by_put v q P here other =
      subst P (sym (put_at m k v q)) (by_names q k (λ b. P (cond b (Some v) (get m q))) here other)

  pub put_here : (v : V) → get (insert m k v) k ≡ Some v
  put_here v = by_put v k (λ r. r ≡ Some v) (λ _. refl) (λ apart. absurd (apart refl))

  pub put_elsewhere : (v : V) (q : List ℕ) → q ≢ k → get (insert m k v) q ≡ get m q
  put_elsewhere v q apart = by_put v q (λ r. r ≡ get m q) (λ is. absurd (apart is)) (λ _. refl)

  -- by whether a name is the one that was removed
  pub by_removed : (q : List ℕ) (P : Option V → Type 0) → (q ≡ k → P None) → (q ≢ k → P (get m q)) → P (get (remove m k) q)
  by_removed q P here other =
      subst P (sym (removed_at m k q)) (by_names q k (λ b. P (cond b None (get m q))) here other)

  pub removed_here : get (remove m k) k ≡ None
  removed_here = by_removed k (λ r. r ≡ None) (λ _. refl) (λ apart. absurd (apart refl))

  pub removed_elsewhere : (q : List ℕ) → q ≢ k → get (remove m k) q ≡ get m q
  removed_elsewhere q apart = by_removed q (λ r. r ≡ get m q) (λ is. absurd (apart is)) (λ _. refl)

  -- by whether a name is the one at which the value was changed
  module _ (f : V → V) where
    pub by_changed : (q : List ℕ) (P : Option V → Type 0) → (q ≡ k → P (option_map f (get m q))) → (q ≢ k → P (get m q)) → P (get (changed_at f m k) q)
    by_changed q P here other = elim (get m k) as (λ r. get m k ≡ r → P (get (changed_if f m k r) q)) [
      | None ↦ λ e. by_names q k (λ _. P (get m q))
          (λ is. let none : get m q ≡ None = ap (get m) is ∙ e in subst P (ap (option_map f) none ∙ sym none) (here is))
          other
      | Some v ↦ λ e. by_put (f v) q P (λ is. subst P (ap (option_map f) (ap (get m) is ∙ e)) (here is)) other
    ] refl

    pub changed_here : get (changed_at f m k) k ≡ option_map f (get m k)
    changed_here = by_changed k (λ r. r ≡ option_map f (get m k)) (λ _. refl) (λ apart. absurd (apart refl))

    pub changed_elsewhere : (q : List ℕ) → q ≢ k → get (changed_at f m k) q ≡ get m q
    changed_elsewhere q apart = by_changed q (λ r. r ≡ get m q) (λ is. absurd (apart is)) (λ _. refl)

    pub len_changed : len (changed_at f m k) ≡ len m
    len_changed = by_option (get m k)
        (λ e. ap (λ r. len (changed_if f m k r)) e)
        (λ v e. ap (λ r. len (changed_if f m k r)) e ∙ len-insert nat_list_cmp_total m k (f v) ∙ ap (λ r. cond (is_some r) (len m) (len m + 1)) e)
