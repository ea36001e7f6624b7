-- Rows joined with the rows of a list that go with them: where none goes with two, they are those that go with some, in another order.
use Rattle.book_tables_rows.proofs.Common.{◌≡◌, Bool, true, false, cond, ◌||◌, List, [], ◌∷◌, ◌++◌, map, filter, flat_map, refl, sym, ap, subst, ◌∙◌, true≢false, if◌then◌else◌, AllByRecursion, list_any, Row, IsAscending}
use Rattle.std.proofs.Common.{IsPermutation}
use Rattle.std.proofs.lemmas.List.{map-append}
use Rattle.std.proofs.lemmas.List.Sorted.{IsPermutation-refl, IsPermutation-trans, IsPermutation-cons, IsPermutation-middle, IsPermutation-append_right}
use Rattle.book_tables_rows.proofs.Statements.{map-map, matched}

-- ---- what passes one of two tests, where nothing passes both

module _ {X : Type 0} (p q : X → Bool) (apart : (x : X) → p x ≡ true → q x ≡ false) where
  abbrev either : X → Bool
  either x = p x || q x

  pub filter_either : (xs : List X) → IsPermutation (filter p xs ++ filter q xs) (filter either xs)
  filter_either [] = IsPermutation-refl []
  filter_either (x ∷ xs) = go (p x) refl (q x) refl (filter_either xs)
    where
      go : (a : Bool) → p x ≡ a → (b : Bool) → q x ≡ b → IsPermutation (filter p xs ++ filter q xs) (filter either xs)
          → IsPermutation (cond a (x ∷ filter p xs) (filter p xs) ++ cond b (x ∷ filter q xs) (filter q xs)) (cond (a || b) (x ∷ filter either xs) (filter either xs))
      go true is true also more = absurd (true≢false (sym also ∙ apart x is))
      go true is false not more = IsPermutation-cons x _ _ more
      go false not true is more = IsPermutation-trans _ _ _ (IsPermutation-middle (filter p xs) x (filter q xs)) (IsPermutation-cons x _ _ more)
      go false not false neither more = more

pub none_filtered : {X : Type 0} (xs : List X) → filter (λ x. false) xs ≡ []
none_filtered [] = refl
none_filtered (x ∷ xs) = none_filtered xs

-- ---- the rows that go with some

-- no row goes with both
abbrev pub AreApart : (Row → Row → Bool) → Row → Row → Type 0
AreApart goes a b = (row : Row) → goes a row ≡ true → goes b row ≡ false

module _ (goes : Row → Row → Bool) (rows : List Row) where
  -- those that go with the first, with the second, and so on
  abbrev pub joined : List Row → List Row
  joined = flat_map (λ n. filter (goes n) rows)

  abbrev goes_with_some : List Row → Row → Bool
  goes_with_some nodes row = list_any (λ n. goes n row) nodes

  with_none : (n row : Row) → goes n row ≡ true → (nodes : List Row) → AllByRecursion (AreApart goes n) nodes → goes_with_some nodes row ≡ false
  with_none n row is [] apart = refl
  with_none n row is (m ∷ nodes) apart = ap (λ b. b || goes_with_some nodes row) (apart.0 row is) ∙ with_none n row is nodes apart.1

  pub joined_are : (nodes : List Row) → IsAscending (AreApart goes) nodes → IsPermutation (joined nodes) (filter (goes_with_some nodes) rows)
  joined_are [] apart = subst (IsPermutation []) (sym (none_filtered rows)) (IsPermutation-refl [])
  joined_are (n ∷ nodes) apart =
      IsPermutation-trans _ _ _ (IsPermutation-append_right (filter (goes n) rows) _ _ (joined_are nodes apart.1))
      (filter_either (goes n) (goes_with_some nodes) (λ row is. with_none n row is nodes apart.0) rows)

  -- what is drawn of a pair is drawn of its second row
  module _ {Y Z : Type 0} (pair : Row → Row → Y) (draw : Y → Z) (out : Row → Z) (same : (n row : Row) → draw (pair n row) ≡ out row) where
    abbrev pairs_with : Row → List Y
    pairs_with n = flat_map (λ row. if goes n row then pair n row ∷ [] else []) rows

    drawn_with : (n : Row) → map draw (pairs_with n) ≡ map out (filter (goes n) rows)
    drawn_with n = ap (map draw) (matched (goes n) (pair n) rows) ∙ map-map draw (pair n) (filter (goes n) rows) ∙ (λ i. map (λ row. same n row i) (filter (goes n) rows))

    pub drawn_are : (nodes : List Row) → map draw (flat_map pairs_with nodes) ≡ map out (joined nodes)
    drawn_are [] = refl
    drawn_are (n ∷ nodes) =
        map-append draw (pairs_with n) (flat_map pairs_with nodes) ∙ (λ i. drawn_with n i ++ drawn_are nodes i) ∙ sym (map-append out (filter (goes n) rows) (joined nodes))
