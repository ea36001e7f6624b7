-- The entries of one node lie side by side where the nodes' numbers do not fall, between two partition points.
use Rattle.book_tables.proofs.Common.{◌≡◌, ℕ, suc, ◌<◌, ◌≤◌, ℤ, Bool, true, false, not, List, [], ◌∷◌, filter, length, take, drop, get_or, cond, refl, sym, ap, subst, ◌∙◌, true≢false, arith, Less, Equal, Greater, is_eq, AllByRecursion, ints, Row, IsAscending, DoNotFall}
use Rattle.std.proofs.Common.{zero, int_eq}
use Rattle.std.specs.Prelude.{◌≤ℤ◌, int_lt}
use Rattle.std.specs.List.{AllWithin}
use Rattle.std.specs.List.Sorted.{IsPartitionPoint, IsPartitionedBy}
use Rattle.std.proofs.lemmas.Bool.{not-true}
use Rattle.sqlite_keyed.proofs.ListLemmas.{all_weaker, all_both, filter_none}
use Rattle.book_tables.specs.Shares.{is_of, node_in}

module _ {X : Type 0} where
  all_at : (P : X → Type 0) (xs : List X) (i : ℕ) (d : X) → AllByRecursion P xs → i < length xs → P (get_or xs i d)
  all_at P [] i d all within = absurd (omega arith)
  all_at P (x ∷ xs) zero d all within = all.0
  all_at P (x ∷ xs) (suc i) d all within = all_at P xs i d all.1 (omega arith)

  pub parted : (R : X → X → Type 0) (p : X → Bool) → ((a b : X) → R a b → p b ≡ true → p a ≡ true) → (xs : List X) → IsAscending R xs → IsPartitionedBy p xs
  parted R p follows [] up i j d le within h = absurd (omega arith)
  parted R p follows (x ∷ xs) up zero zero d le within h = h
  parted R p follows (x ∷ xs) up zero (suc j) d le within h = follows x (get_or xs j d) (all_at (R x) xs j d up.0 (omega arith)) h
  parted R p follows (x ∷ xs) up (suc i) zero d le within h = absurd (omega arith)
  parted R p follows (x ∷ xs) up (suc i) (suc j) d le within h = parted R p follows xs up.1 i j d (omega arith) (omega arith) h

  ascending_left : (R : X → X → Type 0) (xs : List X) (n : ℕ) → IsAscending R xs → IsAscending R (drop n xs)
  ascending_left R xs zero up = up
  ascending_left R [] (suc n) up = tt
  ascending_left R (x ∷ xs) (suc n) up = ascending_left R xs n up.1

  all_taken : (P : X → Type 0) (xs : List X) (n : ℕ) → AllWithin P xs 0 n → n ≤ length xs → AllByRecursion P (take n xs)
  all_taken P xs zero all within = tt
  all_taken P [] (suc n) all within = tt
  all_taken P (x ∷ xs) (suc n) all within = (all 0 x (omega arith) (omega arith), all_taken P xs n (λ k d l h. all (suc k) d (omega arith) (omega arith)) (omega arith))

  all_dropped : (P : X → Type 0) (xs : List X) (n : ℕ) → AllWithin P xs n (length xs) → AllByRecursion P (drop n xs)
  all_dropped P [] zero all = tt
  all_dropped P [] (suc n) all = tt
  all_dropped P (x ∷ xs) zero all = (all 0 x (omega arith) (omega arith), all_dropped P xs zero (λ k d l h. all (suc k) d (omega arith) (omega arith)))
  all_dropped P (x ∷ xs) (suc n) all = all_dropped P xs n (λ k d l h. all (suc k) d (omega arith) (omega arith))

  pub all_first : (P : X → Type 0) (xs : List X) (n : ℕ) → AllByRecursion P xs → AllByRecursion P (take n xs)
  all_first P xs zero all = tt
  all_first P [] (suc n) all = tt
  all_first P (x ∷ xs) (suc n) all = (all.0, all_first P xs n all.1)

  module _ (p : X → Bool) where
    sifted_from : (xs : List X) (n : ℕ) → AllByRecursion (λ x. p x ≡ false) (take n xs) → filter p xs ≡ filter p (drop n xs)
    sifted_from xs zero none = refl
    sifted_from [] (suc n) none = refl
    sifted_from (x ∷ xs) (suc n) none = rw none.0 (sifted_from xs n none.1)

    sifted_to : (xs : List X) (n : ℕ) → AllByRecursion (λ x. p x ≡ true) (take n xs) → AllByRecursion (λ x. p x ≡ false) (drop n xs) → filter p xs ≡ take n xs
    sifted_to xs zero all none = filter_none p xs none
    sifted_to [] (suc n) all none = refl
    sifted_to (x ∷ xs) (suc n) all none = rw all.0 (ap (λ l. x ∷ l) (sifted_to xs n all.1 none))

-- ---- entries

abbrev pub is_below : ℤ → Row → Bool
is_below node row = int_lt (node_in row) node

abbrev pub is_up_to : ℤ → Row → Bool
is_up_to node row = not (int_lt node (node_in row))

below_before : (n a b : ℤ) → a ≤ℤ b → int_lt b n ≡ true → int_lt a n ≡ true
below_before n a b le h = grind (arith, ints)

not_above_before : (n a b : ℤ) → a ≤ℤ b → int_lt n b ≡ false → int_lt n a ≡ false
not_above_before n a b le h = grind (arith, ints)

below_apart : (n a : ℤ) → int_lt a n ≡ true → int_eq a n ≡ false
below_apart n a h = go (int_lt a n) (int_lt n a) h
  where
    go : (x y : Bool) → x ≡ true → is_eq (cond x Less (cond y Greater Equal)) ≡ false
    go true y p = refl
    go false y p = absurd (true≢false (sym p))

above_apart : (n a : ℤ) → not (int_lt n a) ≡ false → int_eq a n ≡ false
above_apart n a h = go (int_lt a n) (int_lt n a) h
  where
    go : (x y : Bool) → not y ≡ false → is_eq (cond x Less (cond y Greater Equal)) ≡ false
    go true y p = refl
    go false true p = refl
    go false false p = absurd (true≢false p)

between_is : (n a : ℤ) → int_lt a n ≡ false → not (int_lt n a) ≡ true → int_eq a n ≡ true
between_is n a h k = go (int_lt a n) (int_lt n a) h k
  where
    go : (x y : Bool) → x ≡ false → not y ≡ true → is_eq (cond x Less (cond y Greater Equal)) ≡ true
    go true y p q = absurd (true≢false p)
    go false true p q = absurd (true≢false (sym q))
    go false false p q = refl

module _ (node : ℤ) (entries : List Row) (rising : DoNotFall entries) where
  pub parted_below : IsPartitionedBy (is_below node) entries
  parted_below = parted (λ a b. node_in a ≤ℤ node_in b) (is_below node) (λ a b le h. below_before node (node_in a) (node_in b) le h) entries rising

  module _ (start : ℕ) where
    pub parted_up_to : (rest : List Row) → rest ≡ drop start entries → IsPartitionedBy (is_up_to node) rest
    parted_up_to rest is =
        subst (IsPartitionedBy (is_up_to node)) (sym is)
        (parted (λ a b. node_in a ≤ℤ node_in b) (is_up_to node) (λ a b le h. ap not (not_above_before node (node_in a) (node_in b) le (not-true (int_lt node (node_in b)) h))) (drop start entries)
        (ascending_left (λ a b. node_in a ≤ℤ node_in b) entries start rising))

    module _ (within : start ≤ length entries) (point : IsPartitionPoint (λ r. is_below node r ≡ true) (λ r. is_below node r ≡ false) entries start) (count : ℕ) where
      from_start : count ≤ length (drop start entries) → IsPartitionPoint (λ r. is_up_to node r ≡ true) (λ r. is_up_to node r ≡ false) (drop start entries) count
          → take count (drop start entries) ≡ filter (is_of node) entries
      from_start in_rest end =
          let rest = drop start entries in
          let before : AllByRecursion (λ r. is_of node r ≡ false) (take start entries) =
          all_weaker (λ r. is_below node r ≡ true) (λ r. is_of node r ≡ false) (λ r h. below_apart node (node_in r) h) (take start entries) (all_taken _ entries start point.0 within) in
          let its : AllByRecursion (λ r. is_of node r ≡ true) (take count rest) =
          all_both (λ r. is_below node r ≡ false) (λ r. is_up_to node r ≡ true) (λ r. is_of node r ≡ true) (λ r h k. between_is node (node_in r) h k) (take count rest)
          (all_first _ rest count (all_dropped _ entries start point.1)) (all_taken _ rest count end.0 in_rest) in
          let after : AllByRecursion (λ r. is_of node r ≡ false) (drop count rest) =
          all_weaker (λ r. is_up_to node r ≡ false) (λ r. is_of node r ≡ false) (λ r h. above_apart node (node_in r) h) (drop count rest) (all_dropped _ rest count end.1) in
          sym (sifted_from (is_of node) entries start before ∙ sifted_to (is_of node) rest count its after)

      pub side_by_side : (rest : List Row) → rest ≡ drop start entries → count ≤ length rest → IsPartitionPoint (λ r. is_up_to node r ≡ true) (λ r. is_up_to node r ≡ false) rest count
          → take count rest ≡ filter (is_of node) entries
      side_by_side rest is =
          subst (λ xs. count ≤ length xs → IsPartitionPoint (λ r. is_up_to node r ≡ true) (λ r. is_up_to node r ≡ false) xs count → take count xs ≡ filter (is_of node) entries) (sym is) from_start
