-- Names that are added to a map in turn, each of them new.
use Rattle.book_policy_values.proofs.Common.{◌≡◌, ◌≢◌, ℕ, ◌+◌, ◌≤◌, List, [], ◌∷◌, true, false, cond, length, map, Some, None, sym, ap, ◌∙◌, subst, arith, All, All-nil, All-cons, All-head, All-tail, get, insert, IsName, NamesTo, added, CanAdd}
use Rattle.std.proofs.Common.{suc, is_some}
use Rattle.std.specs.List.{AllPairs}
use Rattle.std.proofs.lemmas.List.Kept.{AllPairs-cons}
use Rattle.std.specs.Cmp.Lexicographic.{nat_list_cmp_total}
use Rattle.std.specs.FinMap.{len, len-insert}
use Rattle.book_office_values.proofs.NameMapLaws.{by_same, put_at, same_itself}
use Rattle.book_office_values.proofs.OneName.{some_apart}

pub same_some : {A : Type 0} {x y : A} → Some x ≡ Some y → x ≡ y
same_some e = cc

pub pairs_head : {X : Type 0} (R : X → X → Type 0) (x : X) (xs : List X) → AllPairs R (x ∷ xs) → All (R x) xs
pairs_head R x xs h = λ k d l. h 0 (suc k) d (omega arith) (omega arith)

pub pairs_tail : {X : Type 0} (R : X → X → Type 0) (x : X) (xs : List X) → AllPairs R (x ∷ xs) → AllPairs R xs
pairs_tail R x xs h = λ i j d below within. h (suc i) (suc j) d (omega arith) (omega arith)

module _ {V : Type 0} (m : NamesTo V) (k : List ℕ) (v : V) where
  pub still_there : (q : List ℕ) → get m q ≢ None → get (insert m k v) q ≢ None
  still_there q there gone = by_same q k (λ b. cond b (Some v) (get m q) ≡ None → ⊥) (λ _ e. some_apart e) there (sym (put_at m k v q) ∙ gone)

  pub put_here : get (insert m k v) k ≡ Some v
  put_here = put_at m k v k ∙ ap (λ b. cond b (Some v) (get m k)) (same_itself k)

  pub now_there : get (insert m k v) k ≢ None
  now_there gone = some_apart (sym put_here ∙ gone)

  pub still_absent : (q : List ℕ) → k ≢ q → get m q ≡ None → get (insert m k v) q ≡ None
  still_absent q apart absent = put_at m k v q ∙ by_same q k (λ b. cond b (Some v) (get m q) ≡ None) (λ same. absurd (apart (sym same))) absent

-- items with an entry each
module _ {A V : Type 0} (Fine : A → Type 0) (entry : A → List ℕ × V) where
  pub all_fine : (m : NamesTo V) (xs : List A) → CanAdd Fine entry m xs → All Fine xs
  all_fine m [] h = All-nil Fine
  all_fine m (x ∷ xs) h = All-cons Fine x xs h.0 (all_fine (insert m (entry x).0 (entry x).1) xs h.3)

  pub all_named : (m : NamesTo V) (xs : List A) → CanAdd Fine entry m xs → All (λ x. IsName (entry x).0) xs
  all_named m [] h = All-nil _
  all_named m (x ∷ xs) h = All-cons (λ y. IsName (entry y).0) x xs h.1 (all_named (insert m (entry x).0 (entry x).1) xs h.3)

  -- a name that is there is none of those that are added
  none_again : (m : NamesTo V) (k : List ℕ) (xs : List A) → get m k ≢ None → CanAdd Fine entry m xs → All (λ x. k ≢ (entry x).0) xs
  none_again m k [] there h = All-nil _
  none_again m k (x ∷ xs) there h =
      All-cons (λ y. k ≢ (entry y).0) x xs (λ same. there (ap (get m) same ∙ h.2))
      (none_again (insert m (entry x).0 (entry x).1) k xs (still_there m (entry x).0 (entry x).1 k there) h.3)

  pub all_once : (m : NamesTo V) (xs : List A) → CanAdd Fine entry m xs → AllPairs (λ x y. (entry x).0 ≢ (entry y).0) xs
  all_once m [] h = λ i j d below within. absurd (omega arith)
  all_once m (x ∷ xs) h =
      AllPairs-cons (λ y z. (entry y).0 ≢ (entry z).0) x xs
      (none_again (insert m (entry x).0 (entry x).1) (entry x).0 xs (now_there m (entry x).0 (entry x).1) h.3)
      (all_once (insert m (entry x).0 (entry x).1) xs h.3)

  pub can_add : (m : NamesTo V) (xs : List A) → All Fine xs → All (λ x. IsName (entry x).0) xs
      → AllPairs (λ x y. (entry x).0 ≢ (entry y).0) xs → All (λ x. get m (entry x).0 ≡ None) xs → CanAdd Fine entry m xs
  can_add m [] fine is_named once absent = tt
  can_add m (x ∷ xs) fine is_named once absent =
      let others : All (λ y. (entry x).0 ≢ (entry y).0) xs = pairs_head (λ y z. (entry y).0 ≢ (entry z).0) x xs once in
      let free : All (λ y. get m (entry y).0 ≡ None) xs = All-tail (λ y. get m (entry y).0 ≡ None) x xs absent in (
        All-head Fine x xs fine,
        All-head (λ y. IsName (entry y).0) x xs is_named,
        All-head (λ y. get m (entry y).0 ≡ None) x xs absent,
        can_add (insert m (entry x).0 (entry x).1) xs (All-tail Fine x xs fine) (All-tail (λ y. IsName (entry y).0) x xs is_named)
            (pairs_tail (λ y z. (entry y).0 ≢ (entry z).0) x xs once)
            (λ k d within. still_absent m (entry x).0 (entry x).1 _ (others k d within) (free k d within)),
      )

  -- what holds of the entries added holds of each entry of the map
  pub each_added : (P : List ℕ → V → Type 0) (m : NamesTo V) (xs : List A) → ((k : List ℕ) (v : V) → get m k ≡ Some v → P k v)
      → All (λ x. P (entry x).0 (entry x).1) xs → (k : List ℕ) (v : V) → get (added m (map entry xs)) k ≡ Some v → P k v
  each_added P m [] before all k v is = before k v is
  each_added P m (x ∷ xs) before all k v is =
      each_added P (insert m (entry x).0 (entry x).1) xs
      (λ q w e. by_same q (entry x).0 (λ b. cond b (Some (entry x).1) (get m q) ≡ Some w → P q w)
      (λ same f. subst (λ n. P n w) (sym same) (subst (P (entry x).0) (same_some f) (All-head (λ y. P (entry y).0 (entry y).1) x xs all)))
      (λ f. before q w f)
      (sym (put_at m (entry x).0 (entry x).1 q) ∙ e))
      (All-tail (λ y. P (entry y).0 (entry y).1) x xs all) k v is

  pub len_added : (m : NamesTo V) (xs : List A) → len (added m (map entry xs)) ≤ len m + length xs
  len_added m [] = omega arith
  len_added m (x ∷ xs) =
      let more : len (insert m (entry x).0 (entry x).1) ≤ len m + 1 =
      rw (len-insert nat_list_cmp_total m (entry x).0 (entry x).1)
      (elim (is_some (get m (entry x).0)) as (λ b. cond b (len m) (len m + 1) ≤ len m + 1) [ true ↦ omega arith | false ↦ omega arith ]) in
      let rest = len_added (insert m (entry x).0 (entry x).1) xs in
      omega (arith, more, rest)

  -- each name added is there
  added_keeps : (m : NamesTo V) (xs : List A) (q : List ℕ) → get m q ≢ None → get (added m (map entry xs)) q ≢ None
  added_keeps m [] q there = there
  added_keeps m (x ∷ xs) q there = added_keeps (insert m (entry x).0 (entry x).1) xs q (still_there m (entry x).0 (entry x).1 q there)

  pub all_there : (m : NamesTo V) (xs : List A) → All (λ x. get (added m (map entry xs)) (entry x).0 ≢ None) xs
  all_there m [] = All-nil _
  all_there m (x ∷ xs) =
      All-cons (λ y. get (added m (map entry (x ∷ xs))) (entry y).0 ≢ None) x xs
      (added_keeps (insert m (entry x).0 (entry x).1) xs (entry x).0 (now_there m (entry x).0 (entry x).1))
      (all_there (insert m (entry x).0 (entry x).1) xs)
