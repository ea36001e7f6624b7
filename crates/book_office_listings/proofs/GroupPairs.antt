-- The pairs of one group lie side by side where pairs are in order, between two partition points.
use Rattle.book_office_listings.proofs.Common.{◌≡◌, ◌∙◌, ℕ, ◌<◌, Bool, true, false, List, [], ◌∷◌, length, take, refl, sym, ap, subst, arith, membership_cmp}
use Rattle.std.proofs.Common.{zero, suc, ◌≤◌, filter, drop, get_or}
use Rattle.std.specs.List.{AllByRecursion, AllWithin}
use Rattle.std.specs.List.Sorted.{IsPartitionPoint, IsPartitionedBy, IsStrictlySortedBy}
use Rattle.std.specs.Ordering.{is_eq, is_le, is_lt, ordering_then}
use Rattle.std.specs.Cmp.Lexicographic.{nat_list_cmp_total}
use Rattle.std.specs.Str.{bytes_eq}
use Rattle.std.specs.declared.cmp.Ordering.{Ordering}
use Rattle.std.specs.declared.cmp.Ordering.TheVariants.{Less, Equal, Greater}
use Rattle.std.proofs.lemmas.Bool.{false≢true}
use Rattle.std.proofs.lemmas.Map.Text.{is_eq-slice_cmp}
use Rattle.book_lists.proofs.PathSets.{paths_exact}
use Rattle.book_lists.specs.Principals.{path_cmp}
use Rattle.book_lists.specs.declared.memberships.Membership.{Membership}

-- ---- lists in order, and their parts
module _ {X : Type 0} where
  abbrev pub IsAscending : (X → X → Type 0) → List X → Type 0
  IsAscending R [] = Unit {0}
  IsAscending R (x ∷ xs) = AllByRecursion (R x) xs × IsAscending R xs

  all_weaker : (P Q : X → Type 0) → ((x : X) → P x → Q x) → (xs : List X) → AllByRecursion P xs → AllByRecursion Q xs
  all_weaker P Q f [] h = tt
  all_weaker P Q f (x ∷ xs) h = (f x h.0, all_weaker P Q f xs h.1)

  all_both : (P Q R : X → Type 0) → ((x : X) → P x → Q x → R x) → (xs : List X) → AllByRecursion P xs → AllByRecursion Q xs → AllByRecursion R xs
  all_both P Q R f [] h k = tt
  all_both P Q R f (x ∷ xs) h k = (f x h.0 k.0, all_both P Q R f xs h.1 k.1)

  filter_none : (p : X → Bool) (xs : List X) → AllByRecursion (λ x. p x ≡ false) xs → filter p xs ≡ []
  filter_none p [] h = refl
  filter_none p (x ∷ xs) h = rw (h.0, filter_none p xs h.1)

  all_at : (P : X → Type 0) (xs : List X) (i : ℕ) (d : X) → AllByRecursion P xs → i < length xs → P (get_or xs i d)
  all_at P [] i d all within = absurd (omega arith)
  all_at P (x ∷ xs) zero d all within = all.0
  all_at P (x ∷ xs) (suc i) d all within = all_at P xs i d all.1 (omega arith)

  pub parted : (R : X → X → Type 0) (p : X → Bool) → ((a b : X) → R a b → p b ≡ true → p a ≡ true) → (xs : List X) → IsAscending R xs → IsPartitionedBy p xs
  parted R p follows [] up i j d le within h = absurd (omega arith)
  parted R p follows (x ∷ xs) up zero zero d le within h = h
  parted R p follows (x ∷ xs) up zero (suc j) d le within h = follows x (get_or xs j d) (all_at (R x) xs j d up.0 (omega arith)) h
  parted R p follows (x ∷ xs) up (suc i) zero d le within h = absurd (omega arith)
  parted R p follows (x ∷ xs) up (suc i) (suc j) d le within h = parted R p follows xs up.1 i j d (omega arith) (omega arith) h

  ascending_left : (R : X → X → Type 0) (xs : List X) (n : ℕ) → IsAscending R xs → IsAscending R (drop n xs)
  ascending_left R xs zero up = up
  ascending_left R [] (suc n) up = tt
  ascending_left R (x ∷ xs) (suc n) up = ascending_left R xs n up.1

  all_taken : (P : X → Type 0) (xs : List X) (n : ℕ) → AllWithin P xs 0 n → n ≤ length xs → AllByRecursion P (take n xs)
  all_taken P xs zero all within = tt
  all_taken P [] (suc n) all within = tt
  all_taken P (x ∷ xs) (suc n) all within = (all 0 x (omega arith) (omega arith), all_taken P xs n (λ k d l h. all (suc k) d (omega arith) (omega arith)) (omega arith))

  all_dropped : (P : X → Type 0) (xs : List X) (n : ℕ) → AllWithin P xs n (length xs) → AllByRecursion P (drop n xs)
  all_dropped P [] zero all = tt
  all_dropped P [] (suc n) all = tt
  all_dropped P (x ∷ xs) zero all = (all 0 x (omega arith) (omega arith), all_dropped P xs zero (λ k d l h. all (suc k) d (omega arith) (omega arith)))
  all_dropped P (x ∷ xs) (suc n) all = all_dropped P xs n (λ k d l h. all (suc k) d (omega arith) (omega arith))

  all_first : (P : X → Type 0) (xs : List X) (n : ℕ) → AllByRecursion P xs → AllByRecursion P (take n xs)
  all_first P xs zero all = tt
  all_first P [] (suc n) all = tt
  all_first P (x ∷ xs) (suc n) all = (all.0, all_first P xs n all.1)

  module _ (p : X → Bool) where
    sifted_from : (xs : List X) (n : ℕ) → AllByRecursion (λ x. p x ≡ false) (take n xs) → filter p xs ≡ filter p (drop n xs)
    sifted_from xs zero none = refl
    sifted_from [] (suc n) none = refl
    sifted_from (x ∷ xs) (suc n) none = rw none.0 (sifted_from xs n none.1)

    sifted_to : (xs : List X) (n : ℕ) → AllByRecursion (λ x. p x ≡ true) (take n xs) → AllByRecursion (λ x. p x ≡ false) (drop n xs) → filter p xs ≡ take n xs
    sifted_to xs zero all none = filter_none p xs none
    sifted_to [] (suc n) all none = refl
    sifted_to (x ∷ xs) (suc n) all none = rw all.0 (ap (λ l. x ∷ l) (sifted_to xs n all.1 none))

-- ---- the pairs of a group
abbrev pub is_below : List ℕ → Membership → Bool
is_below group m = is_lt (path_cmp m.group group)

abbrev pub is_up_to : List ℕ → Membership → Bool
is_up_to group m = is_le (path_cmp m.group group)

abbrev pub is_of : List ℕ → Membership → Bool
is_of group m = bytes_eq m.group group

abbrev NotAfter : Membership → Membership → Type 0
NotAfter a b = is_le (path_cmp a.group b.group) ≡ true

not_after : (r s : Ordering) → ordering_then r s ≡ Less → is_le r ≡ true
not_after Less s e = refl
not_after Equal s e = refl
not_after Greater s e = absurd cc

ascends : (pairs : List Membership) → IsStrictlySortedBy membership_cmp pairs → IsAscending NotAfter pairs
unfolding IsStrictlySortedBy
ascends [] h = tt
ascends (x ∷ xs) h = (
  all_weaker (λ y. membership_cmp x y ≡ Less) (NotAfter x) (λ y e. not_after (path_cmp x.group y.group) (path_cmp x.member y.member) e) xs h.0,
  ascends xs h.1,
)

module _ (g : List ℕ) where
  below_before : (a b : List ℕ) → is_le (path_cmp a b) ≡ true → is_lt (path_cmp b g) ≡ true → is_lt (path_cmp a g) ≡ true
  below_before a b le h = go (path_cmp a b) (path_cmp b g) refl refl le h
    where
      go : (r s : Ordering) → path_cmp a b ≡ r → path_cmp b g ≡ s → is_le r ≡ true → is_lt s ≡ true → is_lt (path_cmp a g) ≡ true
      go Greater s p q x y = absurd (false≢true x)
      go Less Less p q x y = ap is_lt (nat_list_cmp_total.trans a b g p q)
      go Equal Less p q x y = ap is_lt (nat_list_cmp_total.congr a b g p ∙ q)
      go Less Equal p q x y = absurd (false≢true y)
      go Equal Equal p q x y = absurd (false≢true y)
      go Less Greater p q x y = absurd (false≢true y)
      go Equal Greater p q x y = absurd (false≢true y)

  up_to_before : (a b : List ℕ) → is_le (path_cmp a b) ≡ true → is_le (path_cmp b g) ≡ true → is_le (path_cmp a g) ≡ true
  up_to_before a b le h = go (path_cmp a b) (path_cmp b g) refl refl le h
    where
      go : (r s : Ordering) → path_cmp a b ≡ r → path_cmp b g ≡ s → is_le r ≡ true → is_le s ≡ true → is_le (path_cmp a g) ≡ true
      go Greater s p q x y = absurd (false≢true x)
      go Less Less p q x y = ap is_le (nat_list_cmp_total.trans a b g p q)
      go Less Equal p q x y = ap (λ k. is_le (path_cmp a k)) (sym (paths_exact b g q)) ∙ ap is_le p
      go Less Greater p q x y = absurd (false≢true y)
      go Equal Less p q x y = ap is_le (nat_list_cmp_total.congr a b g p ∙ q)
      go Equal Equal p q x y = ap is_le (nat_list_cmp_total.congr a b g p ∙ q)
      go Equal Greater p q x y = absurd (false≢true y)

  below_apart : (m : Membership) → is_below g m ≡ true → is_of g m ≡ false
  below_apart m h = sym (is_eq-slice_cmp m.group g) ∙ go (path_cmp m.group g) h
    where
      go : (r : Ordering) → is_lt r ≡ true → is_eq r ≡ false
      go Less e = refl
      go Equal e = absurd (false≢true e)
      go Greater e = refl

  above_apart : (m : Membership) → is_up_to g m ≡ false → is_of g m ≡ false
  above_apart m h = sym (is_eq-slice_cmp m.group g) ∙ go (path_cmp m.group g) h
    where
      go : (r : Ordering) → is_le r ≡ false → is_eq r ≡ false
      go Less e = refl
      go Equal e = absurd (false≢true (sym e))
      go Greater e = refl

  between_is : (m : Membership) → is_below g m ≡ false → is_up_to g m ≡ true → is_of g m ≡ true
  between_is m h k = sym (is_eq-slice_cmp m.group g) ∙ go (path_cmp m.group g) h k
    where
      go : (r : Ordering) → is_lt r ≡ false → is_le r ≡ true → is_eq r ≡ true
      go Less e f = absurd (false≢true (sym e))
      go Equal e f = refl
      go Greater e f = absurd (false≢true f)

module _ (group : List ℕ) (pairs : List Membership) (sorted : IsStrictlySortedBy membership_cmp pairs) where
  pub parted_below : IsPartitionedBy (is_below group) pairs
  parted_below = parted NotAfter (is_below group) (λ a b le h. below_before group a.group b.group le h) pairs (ascends pairs sorted)

  module _ (start : ℕ) where
    pub parted_up_to : (rest : List Membership) → rest ≡ drop start pairs → IsPartitionedBy (is_up_to group) rest
    parted_up_to rest is =
        subst (IsPartitionedBy (is_up_to group)) (sym is)
        (parted NotAfter (is_up_to group) (λ a b le h. up_to_before group a.group b.group le h) (drop start pairs)
        (ascending_left NotAfter pairs start (ascends pairs sorted)))

    module _ (within : start ≤ length pairs) (point : IsPartitionPoint (λ m. is_below group m ≡ true) (λ m. is_below group m ≡ false) pairs start) (count : ℕ) where
      from_start : count ≤ length (drop start pairs) → IsPartitionPoint (λ m. is_up_to group m ≡ true) (λ m. is_up_to group m ≡ false) (drop start pairs) count
          → take count (drop start pairs) ≡ filter (is_of group) pairs
      from_start in_rest end =
          let rest = drop start pairs in
          let before : AllByRecursion (λ m. is_of group m ≡ false) (take start pairs) =
          all_weaker (λ m. is_below group m ≡ true) (λ m. is_of group m ≡ false) (λ m h. below_apart group m h) (take start pairs) (all_taken _ pairs start point.0 within) in
          let its : AllByRecursion (λ m. is_of group m ≡ true) (take count rest) =
          all_both (λ m. is_below group m ≡ false) (λ m. is_up_to group m ≡ true) (λ m. is_of group m ≡ true) (λ m h k. between_is group m h k) (take count rest)
          (all_first _ rest count (all_dropped _ pairs start point.1)) (all_taken _ rest count end.0 in_rest) in
          let after : AllByRecursion (λ m. is_of group m ≡ false) (drop count rest) =
          all_weaker (λ m. is_up_to group m ≡ false) (λ m. is_of group m ≡ false) (λ m h. above_apart group m h) (drop count rest) (all_dropped _ rest count end.1) in
          sym (sifted_from (is_of group) pairs start before ∙ sifted_to (is_of group) rest count its after)

      pub side_by_side : (rest : List Membership) → rest ≡ drop start pairs → count ≤ length rest → IsPartitionPoint (λ m. is_up_to group m ≡ true) (λ m. is_up_to group m ≡ false) rest count
          → take count rest ≡ filter (is_of group) pairs
      side_by_side rest is =
          subst (λ xs. count ≤ length xs → IsPartitionPoint (λ m. is_up_to group m ≡ true) (λ m. is_up_to group m ≡ false) xs count → take count xs ≡ filter (is_of group) pairs) (sym is) from_start
