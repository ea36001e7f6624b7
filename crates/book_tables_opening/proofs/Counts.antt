-- How often a key is there, as a loop counts.
use Rattle.book_tables_opening.proofs.Common.{◌≡◌, ℕ, zero, suc, ◌+◌, ◌<◌, ◌≤◌, Bool, true, false, cond, ◌&&◌, List, [], ◌∷◌, length, filter, take, get_or, unwrap_or, Option, Some, Ordering, is_eq, int_eq, int_cmp, refl, sym, ap, ◌∙◌, arith, count_by, and_parts, Key, same_key, AreAtMost}
use Rattle.std.specs.Ordering.{ordering_then}
use Rattle.std.proofs.lemmas.List.Sums.{count_by_more_yes, count_by_more_no}
use Rattle.std.specs.BTreeMap.{BTreeMap, get, Updates}
use Rattle.std.proofs.lemmas.Cmp.{int_eq_equiv}
use Rattle.std.proofs.lemmas.List.Sums.{length-filter}
use Rattle.sqlite_keyed.proofs.KeyedLemmas.{same_int}
use Rattle.book_lists.proofs.Pairing.{is_eq-then}

-- keys in order
abbrev pub key_cmp : Key → Key → Ordering
key_cmp a b = ordering_then (int_cmp a.0 b.0) (int_cmp a.1 b.1)

pub same_is : (a b : Key) → is_eq (key_cmp a b) ≡ same_key a b
same_is a b = is_eq-then (int_cmp a.0 b.0) (int_cmp a.1 b.1)

pub is_key : (a b : Key) → same_key a b ≡ true → a ≡ b
is_key a b h =
    let parts = and_parts (int_eq a.0 b.0) (int_eq a.1 b.1) h in
    let first = same_int a.0 b.0 parts.0 in
    let second = same_int a.1 b.1 parts.1 in
    λ i. (first i, second i)

-- a key as it stands in a list is counted there
module _ {X : Type 0} (p : X → Bool) where
  pub count_next : (xs : List X) (i : ℕ) (x : X) → i < length xs → get_or xs i x ≡ x → count_by p (take (i + 1) xs) ≡ cond (p x) (count_by p (take i xs) + 1) (count_by p (take i xs))
  count_next xs i x below is = go (p x) refl
    where
      go : (b : Bool) → p x ≡ b → count_by p (take (i + 1) xs) ≡ cond b (count_by p (take i xs) + 1) (count_by p (take i xs))
      go true e = count_by_more_yes p xs i x below (ap p is ∙ e)
      go false e = count_by_more_no p xs i x below (ap p is ∙ e)

  pub passed_part : (xs : List X) (i : ℕ) → length (filter p (take i xs)) ≤ length (filter p xs)
  passed_part [] zero = omega arith
  passed_part [] (suc i) = omega arith
  passed_part (x ∷ xs) zero = omega arith
  passed_part (x ∷ xs) (suc i) = go (p x) (passed_part xs i)
    where
      go : (b : Bool) → length (filter p (take i xs)) ≤ length (filter p xs) → length (cond b (x ∷ filter p (take i xs)) (filter p (take i xs))) ≤ length (cond b (x ∷ filter p xs) (filter p xs))
      go true more = omega (arith, more)
      go false more = more

  -- a part has no more than the whole
  pub count_part : (xs : List X) (i : ℕ) → count_by p (take i xs) ≤ count_by p xs
  count_part xs i =
      let part = length-filter p (take i xs) in
      let whole = length-filter p xs in
      let fewer = passed_part xs i in
      omega (arith, part, whole, fewer)

-- ---- the loop over keys

turned : (a b : Key) → same_key a b ≡ same_key b a
turned a b = λ i. int_eq_equiv.symm a.0 b.0 i && int_eq_equiv.symm a.1 b.1 i

itself : (a : Key) → same_key a a ≡ true
itself a = λ i. int_eq_equiv.refl a.0 i && int_eq_equiv.refl a.1 i

abbrev pub AreCounts : List Key → ℕ → BTreeMap Key ℕ → Type 0
AreCounts keys i counts = (k : Key) → unwrap_or (get key_cmp counts k) 0 ≡ count_by (same_key k) (take i keys)

module _ (limit : ℕ) (keys : List Key) (i : ℕ) (item : Key) (below : i < length keys) (is : get_or keys i item ≡ item) (counts : BTreeMap Key ℕ) (counted : AreCounts keys i counts)
    (count : ℕ) (count_is : count ≡ unwrap_or (get key_cmp counts item) 0) where
  one_more : count_by (same_key item) (take (i + 1) keys) ≡ count + 1
  one_more =
      count_next (same_key item) keys i item below is
      ∙ ap (λ b. cond b (count_by (same_key item) (take i keys) + 1) (count_by (same_key item) (take i keys))) (itself item)
      ∙ ap (λ n. n + 1) (sym (count_is ∙ counted item))

  -- a key that has been there as often as may be is there too often
  pub too_many : limit ≤ count → ¬ (AreAtMost limit keys)
  too_many full few =
      let whole = count_part (same_key item) keys (i + 1) in
      let allowed = few item in
      omega (arith, one_more, whole, allowed, full)

  pub counted_next : (after : BTreeMap Key ℕ) → Updates key_cmp counts after item (Some (count + 1)) → AreCounts keys (i + 1) after
  counted_next after updates k =
      ap (λ (w : Option ℕ). unwrap_or w 0) (updates.0 k)
      ∙ ap (λ b. unwrap_or (cond b (Some (count + 1)) (get key_cmp counts k)) 0) (same_is item k ∙ turned item k)
      ∙ go (same_key k item) refl
      ∙ sym (count_next (same_key k) keys i item below is)
    where
      go : (b : Bool) → same_key k item ≡ b
          → unwrap_or (cond b (Some (count + 1)) (get key_cmp counts k)) 0 ≡ cond b (count_by (same_key k) (take i keys) + 1) (count_by (same_key k) (take i keys))
      go true e = ap (λ n. n + 1) (count_is ∙ ap (λ (q : Key). unwrap_or (get key_cmp counts q) 0) (sym (is_key k item e)) ∙ counted k)
      go false e = counted k

  pub few_next : ((k : Key) → count_by (same_key k) (take i keys) ≤ limit) → count < limit → (k : Key) → count_by (same_key k) (take (i + 1) keys) ≤ limit
  few_next few room k = go (same_key k item) refl
    where
      go : (b : Bool) → same_key k item ≡ b → count_by (same_key k) (take (i + 1) keys) ≤ limit
      go true e =
          let next = count_next (same_key k) keys i item below is ∙ ap (λ b. cond b (count_by (same_key k) (take i keys) + 1) (count_by (same_key k) (take i keys))) e in
          let before = count_is ∙ ap (λ (q : Key). unwrap_or (get key_cmp counts q) 0) (sym (is_key k item e)) ∙ counted k in
          omega (arith, next, before, room)
      go false e =
          let next = count_next (same_key k) keys i item below is ∙ ap (λ b. cond b (count_by (same_key k) (take i keys) + 1) (count_by (same_key k) (take i keys))) e in
          let before = few k in
          omega (arith, next, before)
