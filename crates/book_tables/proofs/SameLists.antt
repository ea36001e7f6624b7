-- Lists that rise and have the same members are one; a list is sorted, and has its members still.
use Rattle.book_tables.proofs.Common.{◌≡◌, inl, inr, Bool, true, false, cond, ◌&&◌, List, [], ◌∷◌, map, refl, sym, ap, subst, ◌∙◌, Ordering, Less, Equal, Greater, is_gt, is_eq, true≢false, IsPermutation, AllByRecursion, IsTotalOrder, IsAscending, Has, all_has, all_from, sort_by}
use Rattle.std.proofs.Common.{is_lt}
use lib.Dec.{T}
use Rattle.std.specs.Ordering.{ordering_reverse}
use Rattle.std.specs.FinMap.{is_sorted}
use Rattle.std.specs.FinMap.Entries.{below_all}
use Rattle.std.proofs.lemmas.List.Elements.{recursion_from_All, All-from_recursion}
use Rattle.std.proofs.lemmas.List.Sorted.{All-permutation, IsPermutation-sym}
use Rattle.sqlite_keyed.specs.Lists.{insert_sorted}
use Rattle.sqlite_keyed.proofs.ListLemmas.{all_weaker}
use Rattle.sqlite_keyed.proofs.SortLemmas.{IsPermutation-sort_by}

module _ {X : Type 0} (R : X → X → Type 0) (one_way : (x y : X) → R x y → R y x → ⊥) where
  head_is : (x y : X) (xs ys : List X) → AllByRecursion (R x) xs → AllByRecursion (R y) ys → Has (y ∷ ys) x → Has (x ∷ xs) y → x ≡ y
  head_is x y xs ys above_x above_y (inl is) back = is
  head_is x y xs ys above_x above_y (inr later) (inl is) = sym is
  head_is x y xs ys above_x above_y (inr later) (inr earlier) = absurd (one_way x y (all_has (R x) xs y above_x earlier) (all_has (R y) ys x above_y later))

  in_tail : (x : X) (xs ys : List X) → AllByRecursion (R x) xs → (z : X) → Has xs z → Has (x ∷ ys) z → Has ys z
  in_tail x xs ys above z there (inl is) = absurd (let less = subst (R x) is (all_has (R x) xs z above there) in one_way x x less less)
  in_tail x xs ys above z there (inr later) = later

  pub same_members : (xs ys : List X) → IsAscending R xs → IsAscending R ys → ((z : X) → Has xs z → Has ys z) → ((z : X) → Has ys z → Has xs z) → xs ≡ ys
  same_members [] [] up_x up_y into back = refl
  same_members [] (y ∷ ys) up_x up_y into back = absurd (back y (inl refl))
  same_members (x ∷ xs) [] up_x up_y into back = absurd (into x (inl refl))
  same_members (x ∷ xs) (y ∷ ys) up_x up_y into back =
      let is = head_is x y xs ys up_x.0 up_y.0 (into x (inl refl)) (back y (inl refl)) in
      let rest = same_members xs ys up_x.1 up_y.1
      (λ z there. in_tail x xs ys up_x.0 z there (subst (λ w. Has (w ∷ ys) z) (sym is) (into z (inr there))))
      (λ z there. in_tail y ys xs up_y.0 z there (subst (λ w. Has (w ∷ xs) z) is (back z (inr there)))) in
      ap (λ w. w ∷ xs) is ∙ ap (λ l. y ∷ l) rest

module _ {X : Type 0} where
  pub has_permuted : (xs ys : List X) → IsPermutation xs ys → (z : X) → Has ys z → Has xs z
  has_permuted xs ys same z there =
      all_has (Has xs) ys z (recursion_from_All (Has xs) ys (All-permutation (Has xs) xs ys same (All-from_recursion (Has xs) xs (all_from (Has xs) xs (λ x h. h))))) there

  pub has_map : {Y : Type 0} (f : X → Y) (xs : List X) (x : X) → Has xs x → Has (map f xs) (f x)
  has_map f [] x h = absurd h
  has_map f (y ∷ xs) x (inl is) = inl (ap f is)
  has_map f (y ∷ xs) x (inr later) = inr (has_map f xs x later)

  pub has_mapped : {Y : Type 0} (f : X → Y) (xs : List X) (y : Y) → Has (map f xs) y → (x : X) × Has xs x × (y ≡ f x)
  has_mapped f [] y h = absurd h
  has_mapped f (x ∷ xs) y (inl is) = (x, inl refl, is)
  has_mapped f (x ∷ xs) y (inr later) = let rest = has_mapped f xs y later in (rest.0, inr rest.1, rest.2)

-- ---- a sorted list

module _ {X : Type 0} (cmp : X → X → Ordering) (total : IsTotalOrder cmp) where
  pub has_sorted : (xs : List X) (z : X) → Has (sort_by cmp xs) z → Has xs z
  has_sorted xs z h = has_permuted xs (sort_by cmp xs) (IsPermutation-sym _ _ (IsPermutation-sort_by cmp total xs)) z h

  pub sorted_has : (xs : List X) (z : X) → Has xs z → Has (sort_by cmp xs) z
  sorted_has xs z h = has_permuted (sort_by cmp xs) xs (IsPermutation-sort_by cmp total xs) z h

  all_inserted : (P : X → Type 0) (new : X) (xs : List X) → P new → AllByRecursion P xs → AllByRecursion P (insert_sorted cmp new xs)
  all_inserted P new [] h all = (h, tt)
  all_inserted P new (x ∷ xs) h all =
      elim (is_gt (cmp new x)) as (λ b. AllByRecursion P (cond b (x ∷ insert_sorted cmp new xs) (new ∷ x ∷ xs))) [ true ↦ (all.0, all_inserted P new xs h all.1) | false ↦ (h, all) ]

  rises_inserted : (new : X) (xs : List X) → AllByRecursion (λ y. is_eq (cmp new y) ≡ false) xs → IsAscending (λ a b. cmp a b ≡ Less) xs → IsAscending (λ a b. cmp a b ≡ Less) (insert_sorted cmp new xs)
  rises_inserted new [] apart up = (tt, tt)
  rises_inserted new (x ∷ xs) apart up = go (cmp new x) refl (rises_inserted new xs apart.1 up.1)
    where
      go : (o : Ordering) → cmp new x ≡ o → IsAscending (λ a b. cmp a b ≡ Less) (insert_sorted cmp new xs)
          → IsAscending (λ a b. cmp a b ≡ Less) (cond (is_gt o) (x ∷ insert_sorted cmp new xs) (new ∷ x ∷ xs))
      go Less e more = ((e, all_weaker _ (λ y. cmp new y ≡ Less) (λ y. total.trans new x y e) xs up.0), up)
      go Equal e more = absurd (true≢false (sym (ap is_eq e) ∙ apart.0))
      go Greater e more = (all_inserted _ new xs (total.antisymm x new ∙ ap ordering_reverse e) up.0, more)

  -- without ties a sorted list rises
  pub sorted_rises : (xs : List X) → IsAscending (λ a b. is_eq (cmp a b) ≡ false) xs → IsAscending (λ a b. cmp a b ≡ Less) (sort_by cmp xs)
  sorted_rises [] apart = tt
  sorted_rises (x ∷ xs) apart =
      rises_inserted x _ (all_from (λ y. is_eq (cmp x y) ≡ false) (sort_by cmp xs) (λ y h. all_has _ xs y apart.0 (has_sorted xs y h))) (sorted_rises xs apart.1)

-- ---- the entries of a map

parts : (a b : Bool) → T (a && b) → T a × T b
parts true b h = (tt, h)
parts false b h = absurd h

below : (o : Ordering) → T (is_lt o) → o ≡ Less
below Less h = refl
below Equal h = absurd h
below Greater h = absurd h

module _ {K V : Type 0} (R : K → K → Ordering) where
  all_above : (k : K) (es : List (K × V)) → T (below_all R k es) → AllByRecursion (λ e. R k e.0 ≡ Less) es
  all_above k [] h = tt
  all_above k (e ∷ es) h = let both = parts _ _ h in (below _ both.0, all_above k es both.1)

  -- keys that rise, one by one
  pub keys_rise : (es : List (K × V)) → T (is_sorted R es) → IsAscending (λ a b. R a.0 b.0 ≡ Less) es
  keys_rise [] h = tt
  keys_rise (e ∷ es) h = let both = parts (below_all R e.0 es) (is_sorted R es) h in (all_above e.0 es both.0, keys_rise es both.1)
