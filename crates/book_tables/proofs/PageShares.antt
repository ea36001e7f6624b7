-- The lists of the first so many changed cards of a book are those among the entries of the cards that are changed no later than the last of them.
use Rattle.book_tables.proofs.Common.{◌≡◌, ℕ, suc, ℤ, pos, Bool, true, false, ◌&&◌, List, [], ◌∷◌, map, filter, take, length, Option, Some, None, option_map, refl, sym, ap, subst, ◌∙◌, arith, true≢false, Ordering, Less, Equal, Greater, is_gt, AllByRecursion, and_parts, tied_itself, same_Some, some_apart, Int, Row, column, rowid, value_cmp, value_cmp_total, IsAscending, Has, all_has, all_from, has_filtered, Changed, Rows, rows_of, State, is_under, DoNotFall, card_among}
use Rattle.std.proofs.Common.{zero, is_le}
use Rattle.std.specs.Prelude.{◌-◌, slice_get}
use Rattle.std.proofs.lemmas.Bool.{and_from}
use Rattle.std.proofs.lemmas.Option.{slice_get-get_or}
use Rattle.sqlite.specs.Ops.{binary, is_null, is_true, from_truth}
use Rattle.sqlite.specs.Query.{limited}
use Rattle.sqlite_keyed.proofs.ListLemmas.{all-slice_get}
use Rattle.book_tables_rows.specs.Columns.{node_number, node_number_place}
use Rattle.book_tables_rows.specs.Lists as lists
use Rattle.book_tables_rows.specs.Lists.{AreFirst, ShowsChangedEntries, changed_id, changed_number, changed_number_place, is_above, is_at_most, is_changed_between}
use Rattle.book_tables.specs.LastChanges.{ShowsCards, last_number}
use Rattle.book_tables.proofs.ChildShares.{cards_are, do_not_fall}
use Rattle.book_tables.proofs.NodeShares.{all_first}
use Rattle.book_tables.proofs.SameLists.{has_mapped, has_permuted}
use Rattle.book_tables.proofs.FirstChanges.{has_first}

-- ---- the first of a list

-- the first of some rows are among them
has_limited : (at_most : Option ℕ) (rows : List Row) (z : Row) → Has (limited at_most rows) z → Has rows z
has_limited None rows z h = h
has_limited (Some k) rows z h = has_first k rows z h

first_has : (at_most : Option ℕ) (place : ℕ) (all shown : List Row) → AreFirst at_most place all shown → (z : Row) → Has shown z → Has all z
first_has at_most place all shown are z h = has_permuted all are.ordered are.same z (has_limited at_most are.ordered z (subst (λ l. Has l z) are.first h))

module _ (R : Row → Row → Type 0) where
  ascending_first : (k : ℕ) (rows : List Row) → IsAscending R rows → IsAscending R (take k rows)
  ascending_first zero rows up = tt
  ascending_first (suc k) [] up = tt
  ascending_first (suc k) (r ∷ rows) up = (all_first (R r) rows k up.0, ascending_first k rows up.1)

  ascending_limited : (at_most : Option ℕ) (rows : List Row) → IsAscending R rows → IsAscending R (limited at_most rows)
  ascending_limited None rows up = up
  ascending_limited (Some k) rows up = ascending_first k rows up

  -- none comes after the last
  up_to_last : ((r : Row) → R r r) → (rows : List Row) → IsAscending R rows → (last : Row) → slice_get rows (length rows - 1) ≡ Some last → AllByRecursion (λ r. R r last) rows
  up_to_last itself [] up last is = tt
  up_to_last itself (r ∷ []) up last is = (subst (R r) (same_Some r last is) (itself r), tt)
  up_to_last itself (r ∷ s ∷ rows) up last is =
      let place : length (r ∷ s ∷ rows) - 1 ≡ suc (length (s ∷ rows) - 1) = omega arith in
      let later : slice_get (s ∷ rows) (length (s ∷ rows) - 1) ≡ Some last = sym (ap (slice_get (r ∷ s ∷ rows)) place) ∙ is in
      (all-slice_get (R r) (s ∷ rows) (length (s ∷ rows) - 1) last later up.0, up_to_last itself (s ∷ rows) up.1 last later)

-- where there is no last one, there is none
pub none_last : (rows : List Row) → None ≡ last_number rows → rows ≡ []
none_last [] none = refl
none_last (r ∷ rows) none = some_apart (sym (ap (option_map changed_number) (slice_get-get_or (r ∷ rows) (length (r ∷ rows) - 1) r (omega arith))) ∙ sym none)

-- ---- numbers as SQL compares them

not_after : (o : Ordering) → is_gt o ≡ false → is_true (from_truth (Some (is_le o))) ≡ true
not_after Less h = refl
not_after Equal h = refl
not_after Greater h = absurd (true≢false h)

at_most_is : (place number : ℕ) (row : Row) → is_null (column row place) ≡ false → is_gt (value_cmp (column row place) (Int (pos number))) ≡ false → is_at_most place number row ≡ true
unfolding binary
at_most_is place number row there h = rw there (not_after (value_cmp (column row place) (Int (pos number))) h)

not_null : (place number : ℕ) (row : Row) → is_above place number row ≡ true → is_null (column row place) ≡ false
unfolding binary
not_null place number row above = go (is_null (column row place)) refl
  where
    go : (b : Bool) → is_null (column row place) ≡ b → b ≡ false
    go false e = refl
    go true e = absurd (true≢false (sym (rw e at above)))

-- ---- the cards of the page

module _ (rows : Rows) (book : ℤ) (number : ℕ) (at_most : Option ℕ) (shown : List Row) (are : AreFirst at_most changed_number_place (lists.changed_rows book number rows) shown) (last : ℕ)
    (last_is : Some (Int (pos last)) ≡ last_number shown) where
  abbrev not_later : Row → Row → Type 0
  not_later a b = is_gt (value_cmp (changed_number a) (changed_number b)) ≡ false

  in_order : IsAscending not_later shown
  in_order = subst (IsAscending not_later) (sym are.first) (ascending_limited not_later at_most are.ordered are.in_order)

  none_later : AllByRecursion (λ row. is_gt (value_cmp (changed_number row) (Int (pos last))) ≡ false) shown
  none_later = go (slice_get shown (length shown - 1)) refl
    where
      go : (o : Option Row) → slice_get shown (length shown - 1) ≡ o → AllByRecursion (λ row. is_gt (value_cmp (changed_number row) (Int (pos last))) ≡ false) shown
      go None e = some_apart (last_is ∙ ap (option_map changed_number) e)
      go (Some row) e =
          let value : changed_number row ≡ Int (pos last) = sym (same_Some _ _ (last_is ∙ ap (option_map changed_number) e)) in
          subst (λ v. AllByRecursion (λ row. is_gt (value_cmp (changed_number row) v) ≡ false) shown) value
          (up_to_last not_later (λ r. ap is_gt (tied_itself value_cmp_total (changed_number r))) shown in_order row e)

  pub cards_between : AllByRecursion (λ row. (card : Row) × Has rows.nodes card × (is_changed_between book number last card ≡ true) × (changed_id row ≡ rowid card)) shown
  cards_between = all_from _ shown (λ row h.
      let changed = has_mapped _ (filter (λ card. is_under (Int book) card && is_above node_number_place number card) rows.nodes) row (first_has at_most changed_number_place (lists.changed_rows book number rows) shown are row h) in
      let found = has_filtered (λ card. is_under (Int book) card && is_above node_number_place number card) rows.nodes changed.0 changed.1 in
      let two = and_parts (is_under (Int book) changed.0) (is_above node_number_place number changed.0) found.1 in
      let value : changed_number row ≡ node_number changed.0 = ap changed_number changed.2 in
      let low : is_gt (value_cmp (node_number changed.0) (Int (pos last))) ≡ false =
      subst (λ v. is_gt (value_cmp v (Int (pos last))) ≡ false) value (all_has (λ r. is_gt (value_cmp (changed_number r) (Int (pos last))) ≡ false) shown row none_later h) in
      let within = at_most_is node_number_place last changed.0 (not_null node_number_place number changed.0 two.1) low in
      (changed.0, found.0, and_from _ _ two.0 (and_from _ _ two.1 within), ap changed_id changed.2))

-- the lists among those entries are the lists of the cards
pub page_told : (s : State) (book : ℤ) (number last : ℕ) (front : List ℕ) (rows entries : List Row) (changes : List Changed) → Some (Int (pos last)) ≡ last_number rows
    → ShowsChangedEntries s book number last entries → (DoNotFall entries → changes ≡ map (card_among entries front) rows) → ShowsCards s book number front rows changes
page_told s book number last front rows entries changes last_is shows joined is_book at_most are =
    let its = is_changed_between book number last in
    let is = shows.1 is_book in
    joined (subst DoNotFall (sym is) (do_not_fall s.now is_book its)) ∙ ap (λ es. map (card_among es front) rows) is
    ∙ cards_are s.now is_book its front rows (cards_between (rows_of s.now.trees) book number at_most rows are last last_is)
