-- Rows that are those of an Office are so in any order of the entries, members and removed names.
use Rattle.book_tables_opening.proofs.Common.{◌≡◌, ◌⊎◌, inl, inr, ℕ, ◌+◌, ◌≤◌, cond, List, [], ◌∷◌, map, refl, sym, ap, subst, ◌∙◌, arith, AllByRecursion, count_by, Row, Has, all_has, all_from, Key, same_key, AreAtMost, IsWithinBook, card_changes, gone_change, gone_changes, change_keys, AreOfficeRows}
use Rattle.std.proofs.Common.{IsPermutation}
use Rattle.std.proofs.lemmas.List.Sorted.{IsPermutation-map, length_permutation, sum_by-IsPermutation}
use Rattle.std.proofs.lemmas.List.Sums.{sum_by-append}
use Rattle.sqlite_rules.proofs.ListLemmas.{has_left, has_right, has_either}
use Rattle.book_tables.proofs.SameLists.{has_permuted}

module _ {X : Type 0} (xs ys : List X) (same : IsPermutation xs ys) where
  -- what holds of each holds in any order
  all_permuted : (P : X → Type 0) → AllByRecursion P xs → AllByRecursion P ys
  all_permuted P all = all_from P ys (λ y there. all_has P xs y all (has_permuted xs ys same y there))

  -- as many keys are one in any order
  count_permuted : (f : X → Key) (k : Key) → count_by (same_key k) (map f ys) ≡ count_by (same_key k) (map f xs)
  count_permuted f k = sum_by-IsPermutation (λ x. cond (same_key k x) 1 0) (map f xs) (map f ys) (IsPermutation-map f xs ys same)

  at_most_permuted : (f : X → Key) (limit : ℕ) → AreAtMost limit (map f xs) → AreAtMost limit (map f ys)
  at_most_permuted f limit few k = subst (λ n. n ≤ limit) (sym (count_permuted f k)) (few k)

-- one element has one order
one_permuted : {X : Type 0} (x : X) (ys : List X) → IsPermutation (x ∷ []) ys → ys ≡ x ∷ []
one_permuted x [] same = absurd (let n = length_permutation (x ∷ []) [] same in omega (arith, n))
one_permuted x (y ∷ z ∷ ys) same = absurd (let n = length_permutation (x ∷ []) (y ∷ z ∷ ys) same in omega (arith, n))
one_permuted x (y ∷ []) same = go (has_permuted (x ∷ []) (y ∷ []) same y (inl refl))
  where
    go : Has (x ∷ []) y → y ∷ [] ≡ x ∷ []
    go (inl is) = ap (λ w. w ∷ []) is
    go (inr none) = absurd none

-- ---- change numbers

module _ (nodes gone gone' : List Row) (same : IsPermutation gone gone') where
  within_permuted : AllByRecursion (IsWithinBook nodes) (change_keys nodes gone) → AllByRecursion (IsWithinBook nodes) (change_keys nodes gone')
  within_permuted within = all_from (IsWithinBook nodes) (change_keys nodes gone') (λ key there. go key (has_either (card_changes nodes) (gone_changes gone') key there))
    where
      was : (key : Key) → Has (change_keys nodes gone) key → IsWithinBook nodes key
      was key there = all_has (IsWithinBook nodes) (change_keys nodes gone) key within there

      go : (key : Key) → Has (card_changes nodes) key ⊎ Has (gone_changes gone') key → IsWithinBook nodes key
      go key (inl card) = was key (has_left (card_changes nodes) (gone_changes gone) key card)
      go key (inr removed) = was key (has_right (card_changes nodes) (gone_changes gone) key (has_permuted (gone_changes gone) (gone_changes gone') (IsPermutation-map gone_change gone gone' same) key removed))

  different_permuted : AreAtMost 1 (change_keys nodes gone) → AreAtMost 1 (change_keys nodes gone')
  different_permuted few k =
      let before = sum_by-append (λ x. cond (same_key k x) 1 0) (card_changes nodes) (gone_changes gone) in
      let after = sum_by-append (λ x. cond (same_key k x) 1 0) (card_changes nodes) (gone_changes gone') in
      let moved = count_permuted gone gone' same gone_change k in
      let most = few k in
      subst (λ n. n ≤ 1) (before ∙ ap (λ n. count_by (same_key k) (card_changes nodes) + n) (sym moved) ∙ sym after) most

pub any_order : (nodes entries entries' members members' gone gone' meta meta' : List Row) → IsPermutation entries entries' → IsPermutation members members' → IsPermutation gone gone' → IsPermutation meta meta'
    → AreOfficeRows nodes entries members gone meta → AreOfficeRows nodes entries' members' gone' meta'
any_order nodes entries entries' members members' gone gone' meta meta' same_entries same_members same_gone same_meta are = record {
  each_node = are.each_node;
  homes = are.homes;
  each_entry = all_permuted entries entries' same_entries _ are.each_entry;
  lists = at_most_permuted entries entries' same_entries _ _ are.lists;
  each_member = all_permuted members members' same_members _ are.each_member;
  groups = at_most_permuted members members' same_members _ _ are.groups;
  each_gone = all_permuted gone gone' same_gone _ are.each_gone;
  within = within_permuted nodes gone gone' same_gone are.within;
  different = different_permuted nodes gone gone' same_gone are.different;
  cards = are.cards;
  books = are.books;
  meta_rows = record { epoch = are.meta_rows.epoch; rows = one_permuted _ meta' (subst (λ m. IsPermutation m meta') are.meta_rows.rows same_meta); last = are.meta_rows.last };
}
