-- A change that is entered in both maps before the number of an earlier change is taken away, and one that is taken back.
use Rattle.book_office_values.proofs.Common.{◌≡◌, ℕ, ◌+◌, ◌<◌, List, true, false, cond, Option, Some, None, refl, sym, ap, ◌∙◌, subst, arith, nat_cmp_total, nat_list_cmp_total, get, insert, remove, get-insert, get-remove, same_map, nat_cmp-IsAntisymmetric, changed_if, Numbers, touched}
use Rattle.std.proofs.Common.{◌-◌}
use Rattle.book_office_values.specs.Changes.{NumberedNames, left, put_back, without, AreIndexed}
use Rattle.book_office_values.proofs.NameMapLaws.{names_apart, same, by_same, put_at, undone}
use Rattle.book_office_values.proofs.Indexes.{one, is_one, not_one, indexed_touched, index_free_next}
use Rattle.book_office_values.proofs.OneName.{put_here}

-- a number that is free stays free where another is taken
pub free_behind : (names : NumberedNames) (k m : ℕ) (name : List ℕ) → k < m → get names m ≡ None → get (insert names k name) m ≡ None
free_behind names k m name h free =
    get-insert nat_cmp_total names k name m ∙ ap (λ t. cond t (Some name) (get names m)) (not_one m k (λ tie. omega arith)) ∙ free

-- taking away another number may come before or after
insert_without : (names : NumberedNames) (x : Option ℕ) (k : ℕ) (name : List ℕ) → ((b : ℕ) → x ≡ Some b → b < k)
    → insert (without names x) k name ≡ without (insert names k name) x
insert_without names None k name h = refl
insert_without names (Some b) k name h = same_map nat_cmp_total nat_cmp-IsAntisymmetric _ _ (λ m.
    get-insert nat_cmp_total (remove names b) k name m
    ∙ ap (cond (one m k) (Some name)) (get-remove nat_cmp_total names b m)
    ∙ elim (one m k) as (λ t. one m k ≡ t → cond t (Some name) (cond (one m b) None (get names m)) ≡ cond (one m b) None (cond t (Some name) (get names m))) [
      | true ↦ λ e.
          let is : m ≡ k = is_one m k e in
          let low = h b refl in
          sym (ap (λ t. cond t None (Some name)) (not_one m b (λ tie. omega arith)))
      | false ↦ λ _. refl
    ] refl
    ∙ sym (ap (cond (one m b) None) (get-insert nat_cmp_total names k name m))
    ∙ sym (get-remove nat_cmp_total (insert names k name) b m))

-- a number that was free and is taken away again
pub number_undone : (names : NumberedNames) (n : ℕ) (name : List ℕ) → get names n ≡ None → remove (insert names n name) n ≡ names
number_undone names n name free = same_map nat_cmp_total nat_cmp-IsAntisymmetric _ _ (λ m.
    get-remove nat_cmp_total (insert names n name) n m
    ∙ ap (cond (one m n) None) (get-insert nat_cmp_total names n name m)
    ∙ elim (one m n) as (λ t. one m n ≡ t → cond t None (cond t (Some name) (get names m)) ≡ get names m) [
      | true ↦ λ t. sym free ∙ ap (get names) (sym (is_one m n t))
      | false ↦ λ _. refl
    ] refl)

module _ (c : Numbers) (names : NumberedNames) (indexed : AreIndexed c names) (a : List ℕ) where
  -- the number after the next is free once the next is taken
  pub free_after : get (insert names (c.number + 1) a) (c.number + 1 + 1) ≡ None
  free_after = free_behind names (c.number + 1) (c.number + 1 + 1) a (omega arith) (index_free_next c names indexed a)

  -- two changes in both maps
  pub indexed_both : (b : List ℕ)
      → AreIndexed (touched (touched c a) b) (without (without (insert (insert names (c.number + 1) a) (c.number + 1 + 1) b) (get c.last a)) (get (touched c a).last b))
  indexed_both b =
      subst (λ m. AreIndexed (touched (touched c a) b) (without m (get (touched c a).last b)))
      (insert_without (insert names (c.number + 1) a) (get c.last a) (c.number + 1 + 1) b (λ n e. let w = indexed.within a n e in omega arith))
      (indexed_touched (touched c a) (without (insert names (c.number + 1) a) (get c.last a)) (indexed_touched c names indexed a) b)

-- a last change that is taken back
module _ (c : Numbers) (a : List ℕ) where
  put_back_at : (x : Option ℕ) → get c.last a ≡ x → put_back (insert c.last a (c.number + 1)) a x ≡ c.last
  put_back_at None e = undone c.last a (c.number + 1) e
  put_back_at (Some n) e =
      ap (changed_if (λ _. n) (insert c.last a (c.number + 1)) a) (put_here c.last a (c.number + 1))
      ∙ same_map nat_list_cmp_total names_apart _ _ (λ q.
      put_at (insert c.last a (c.number + 1)) a n q
      ∙ ap (λ r. cond (same q a) (Some n) r) (put_at c.last a (c.number + 1) q)
      ∙ by_same q a (λ t. cond t (Some n) (cond t (Some (c.number + 1)) (get c.last q)) ≡ get c.last q) (λ is. sym e ∙ ap (get c.last) (sym is)) refl)

  one_less : (n : ℕ) → n + 1 - 1 ≡ n
  one_less n = omega arith

  pub left_touched : left (touched c a) a (get c.last a) ≡ c
  left_touched = λ i. record { number = one_less c.number i; last = put_back_at (get c.last a) refl i }
