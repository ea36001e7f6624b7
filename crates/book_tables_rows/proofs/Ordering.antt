-- The rows that a query shows in the order of a column.
use Rattle.book_tables_rows.proofs.Common.{◌≡◌, ℕ, false, Option, Some, None, Int, sym, AllByRecursion, IsPermutation-map, List, [], ◌∷◌, map, filter, refl, ap, subst, ◌∙◌, Ordering, Less, Equal, Greater, is_eq, ordering_then, Binary, Row, value_cmp, Term, col, Query, IsAnswer, Output, output, page, inner, end, output_cmp, output_cmp_total, Trees, IsAscending, sort_by, sorted_is-sort_by, sort_by-map, ascending-map, ascending_weaker}
use Rattle.std.proofs.Common.{IsPermutation, IsSorted, suc, arith, is_lt, is_gt, add-one}
use Rattle.std.specs.Cmp.{IsTotalOrder}
use Rattle.std.specs.Ordering.{ordering_reverse}
use Rattle.std.proofs.lemmas.Cmp.{upto}
use Rattle.std.proofs.lemmas.List.Elements.{recursion_from_All, All-from_recursion}
use Rattle.std.proofs.lemmas.List.Sorted.{All-permutation}
use Rattle.sqlite.specs.Query.{as_count, limited}
use Rattle.sqlite_keyed.proofs.ListLemmas.{all_weaker}
use Rattle.book_tables_rows.specs.Lists.{AreFirst, limit_of}
use Rattle.sqlite.specs.Order.{column}
use Rattle.sqlite_value.specs.Keys.{ascending}
use Rattle.book_tables_rows.proofs.Meanings.{plain_query}
use Rattle.book_tables_rows.proofs.Statements.{passes, shown_by, map-map, matched}

-- a query of one table in the order of one column
abbrev pub ordered_by : ℕ → List Term → List Term → ℕ → Query
ordered_by tree terms project place = record plain_query { from = inner tree end; filter = terms; project = project; order = (col 1 place, ascending Binary) ∷ [] }

pub then_equal : (o : Ordering) → ordering_then o Equal ≡ o
then_equal Less = refl
then_equal Equal = refl
then_equal Greater = refl

module _ (tree : ℕ) (terms project : List Term) (place : ℕ) (db : Trees) (params : Row) where
  abbrev q : Query
  q = ordered_by tree terms project place

  abbrev env : Row → List Row
  env r = params ∷ r ∷ []

  abbrev out : Row → Output
  out r = output q (env r)

  abbrev pub by : Row → Row → Ordering
  by a b = value_cmp (column a place) (column b place)

  same_order : (a b : Row) → output_cmp q (out a) (out b) ≡ by a b
  same_order a b = then_equal (by a b)

  -- where no two of the rows that pass tie, they are shown as they sort
  pub answers_in_order : (rows : List Row) → IsAnswer q db params rows → IsAscending (λ a b. is_eq (by a b) ≡ false) (filter (passes params terms) (db tree))
      → rows ≡ map (shown_by params project) (sort_by by (filter (passes params terms) (db tree)))
  answers_in_order rows a apart =
      let picked = filter (passes params terms) (db tree) in
      let staged : a.staged ≡ map env picked = a.grouped ∙ matched (passes params terms) env (db tree) in
      let kept : a.kept ≡ map out picked = a.distinct ∙ ap (map (output q)) staged ∙ map-map (output q) env picked in
      let same = subst (λ k. IsPermutation k a.ordered) kept a.same in
      let apart_out = ascending-map (λ x y. is_eq (output_cmp q x y) ≡ false) out picked
      (ascending_weaker (λ a b. is_eq (by a b) ≡ false) (λ a b. is_eq (output_cmp q (out a) (out b)) ≡ false) (λ a b e. ap is_eq (same_order a b) ∙ e) picked apart) in
      let ordered : a.ordered ≡ map out (sort_by by picked) =
      sorted_is-sort_by (output_cmp q) (output_cmp_total q) (map out picked) a.ordered apart_out same a.sorted
      ∙ sort_by-map (output_cmp q) out picked ∙ ap (map out) (ap (λ (cmp : Row → Row → Ordering). sort_by cmp picked) (λ i x y. same_order x y i)) in
      a.shown ∙ ap (λ xs. page q params (map (λ (o : Output). o.1) xs)) ordered ∙ ap (page q params) (map-map (λ (o : Output). o.1) out (sort_by by picked))

-- ---- with a limit

-- a query of one table in the order of one column, with the limit that a parameter is
abbrev pub first_ordered : ℕ → List Term → List Term → ℕ → ℕ → Query
first_ordered tree terms project place parameter = record (ordered_by tree terms project place) { limit = col 0 parameter }

-- a limit below 0 is none
pub count_is : (most : Option ℕ) → as_count (Int (limit_of most)) ≡ most
count_is None = refl
count_is (Some n) = refl

turned : (o : Ordering) → is_lt o ≡ false → is_gt (ordering_reverse o) ≡ false
turned Less h = h
turned Equal h = refl
turned Greater h = refl

module _ {X : Type 0} (cmp : X → X → Ordering) (total : IsTotalOrder cmp) where
  abbrev AtMost : X → X → Type 0
  AtMost a b = is_gt (cmp a b) ≡ false

  below_all : (x : X) (ys : List X) → IsSorted cmp (x ∷ ys) → IsAscending AtMost ys → AllByRecursion (AtMost x) ys
  below_all x [] sorted up = tt
  below_all x (y ∷ ys) sorted up =
      let first : AtMost x y = ap is_gt (total.antisymm x y) ∙ turned _ (sorted 0 x (omega arith) (omega arith)) in
      (first, all_weaker _ (AtMost x) (λ z. upto total x y z first) ys up.0)

  -- a sorted list does not fall
  rises : (xs : List X) → IsSorted cmp xs → IsAscending AtMost xs
  rises [] sorted = tt
  rises (x ∷ xs) sorted =
      let tail : IsSorted cmp xs = λ k d p q. rw add-one (rw add-one at (sorted (suc k) d (omega arith) (omega arith))) in
      let up = rises xs tail in
      (below_all x xs sorted up, up)

module _ (tree : ℕ) (terms project : List Term) (place shown_place parameter : ℕ) (db : Trees) (params : Row)
    (tells : (r : Row) → column (shown_by params project r) shown_place ≡ column r place) where
  abbrev limited_query : Query
  limited_query = first_ordered tree terms project place parameter

  abbrev shows : Row → Output
  shows r = output limited_query (params ∷ r ∷ [])

  abbrev by_shown : Row → Row → Ordering
  by_shown a b = value_cmp (column a shown_place) (column b shown_place)

  -- what is shown tells what it is sorted by
  abbrev Tells : Output → Type 0
  Tells out = column out.1 shown_place ≡ column out.0 0

  all_tell : (rs : List Row) → AllByRecursion Tells (map shows rs)
  all_tell [] = tt
  all_tell (r ∷ rs) = (tells r, all_tell rs)

  as_shown : (a b : Output) → Tells a → Tells b → is_gt (output_cmp limited_query a b) ≡ false → is_gt (by_shown a.1 b.1) ≡ false
  as_shown a b ta tb h = (λ i. is_gt (value_cmp (ta i) (tb i))) ∙ ap is_gt (sym (then_equal (value_cmp (column a.0 0) (column b.0 0)))) ∙ h

  head_shown : (a : Output) → Tells a → (bs : List Output) → AllByRecursion Tells bs → AllByRecursion (λ b. is_gt (output_cmp limited_query a b) ≡ false) bs
      → AllByRecursion (λ b. is_gt (by_shown a.1 b) ≡ false) (map (λ (o : Output). o.1) bs)
  head_shown a ta [] told up = tt
  head_shown a ta (b ∷ bs) told up = (as_shown a b ta told.0 up.0, head_shown a ta bs told.1 up.1)

  all_shown : (bs : List Output) → AllByRecursion Tells bs → IsAscending (λ a b. is_gt (output_cmp limited_query a b) ≡ false) bs
      → IsAscending (λ a b. is_gt (by_shown a b) ≡ false) (map (λ (o : Output). o.1) bs)
  all_shown [] told up = tt
  all_shown (b ∷ bs) told up = (head_shown b told.0 bs told.1 up.0, all_shown bs told.1 up.1)

  -- the first so many of the rows that pass, in the order of the column
  pub answers_first : (most : Option ℕ) → as_count (column params parameter) ≡ most → (rows : List Row) → IsAnswer limited_query db params rows
      → AreFirst most shown_place (map (shown_by params project) (filter (passes params terms) (db tree))) rows
  answers_first most count rows a =
      let picked = filter (passes params terms) (db tree) in
      let env : Row → List Row = λ r. params ∷ r ∷ [] in
      let staged : a.staged ≡ map env picked = a.grouped ∙ matched (passes params terms) env (db tree) in
      let kept : a.kept ≡ map shows picked = a.distinct ∙ ap (map (output limited_query)) staged ∙ map-map (output limited_query) env picked in
      let same = subst (λ k. IsPermutation k a.ordered) kept a.same in
      let told = recursion_from_All Tells a.ordered (All-permutation Tells (map shows picked) a.ordered same (All-from_recursion Tells (map shows picked) (all_tell picked))) in
      record {
        ordered = map (λ (o : Output). o.1) a.ordered;
        same = subst (λ l. IsPermutation l (map (λ (o : Output). o.1) a.ordered)) (map-map (λ (o : Output). o.1) shows picked) (IsPermutation-map (λ (o : Output). o.1) _ _ same);
        in_order = all_shown a.ordered told (rises (output_cmp limited_query) (output_cmp_total limited_query) a.ordered a.sorted);
        first = a.shown ∙ ap (λ c. limited c (map (λ (o : Output). o.1) a.ordered)) count;
      }
