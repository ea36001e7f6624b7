-- Changes that an open connection shows, in order of their numbers, are those of the Office for which it stands.
use Rattle.book_tables.proofs.Common.{◌≡◌, inl, inr, ℕ, ◌<◌, ◌≤◌, true, true≢false, IsAscending, has_filtered, has_kept, List, [], ◌++◌, map, filter, take, length, false, codes, Option, Some, None, Int, pos, option_map, unwrap_or, refl, sym, ap, subst, ◌∙◌, arith, id_in, IsPermutation, get, Has, Row, State, column, rowid, LAST_NUMBER, IsName, Book, Office, changes_after, book_path, some_apart, Changed, book_resource, changed_in, card_shown, removed_shown, Rows, rows_of, ShowsChanges, number_in, row_at, resource_of, StandsFor, value_cmp-Int}
use Rattle.book_tables.specs.Stands.{IsKept}
use Rattle.std.proofs.Common.{◌⊎◌, min, is_gt}
use Rattle.std.proofs.lemmas.List.Sorted.{IsPermutation-sym, IsPermutation-trans, IsPermutation-map, IsPermutation-append}
use Rattle.book_office_values.specs.declared.paths.Path.TheVariants as path
use Rattle.book_office_values.specs.Changes.{first_of}
use Rattle.book_office.specs.Resources.{changed_after, cards_after, is_of_card}
use Rattle.std.proofs.lemmas.List.{append-nil}
use Rattle.sqlite_keyed.proofs.ListLemmas.{ascending-filter}
use Rattle.sqlite.specs.Order.{value_cmp}
use Rattle.sqlite_rules.proofs.ListLemmas.{has_either, has_left, has_right}
use Rattle.book_tables_rows.specs.Lists as lists
use Rattle.book_tables_rows.specs.Lists.{changed_number_place, removed_number_place}
use Rattle.book_tables.specs.LastChanges.{AreCardChangesAt, AreCardChangesOf, ShowsCardChanges, AreChangesAt, AreChangesOf, DoRise}
use Rattle.book_tables.proofs.Acting.{nodes_of}
use Rattle.book_tables.proofs.BookChanges.{IsEarlier, not_both, changes_rise}
use Rattle.book_tables.proofs.ChangedRows.{changes_of, rows_tell, tell_rows, card_number, name_number, not_greater}
use Rattle.book_tables.proofs.FirstChanges.{before, first_same, first_or_many, has_first, of_cards, of_names}
use Rattle.book_tables.proofs.GoneOnce.{gone_once}
use Rattle.book_tables.proofs.SameLists.{same_members, has_permuted, has_map, has_mapped}

-- numbers in a column that do not fall are numbers that do not
ranked_by : (place : ℕ) (s t : Row) → column s place ≡ Int (pos (number_in (column s place))) → column t place ≡ Int (pos (number_in (column t place)))
    → is_gt (value_cmp (column s place) (column t place)) ≡ false → number_in (column s place) ≤ number_in (column t place)
ranked_by place s t is it h =
    let a = number_in (column s place) in
    let b = number_in (column t place) in
    not_greater b a (ap is_gt (sym (value_cmp-Int (pos a) (pos b))) ∙ (λ i. is_gt (value_cmp (sym is i) (sym it i))) ∙ h)

module _ (s : State) (b : List ℕ) (named : IsName b) (n : ℕ) (changes : List Changed) (rise : DoRise changes) (o : Office) (st : IsKept s.now o) where
  abbrev rows : Rows
  rows = rows_of s.now.trees

  found : option_map (resource_of rows.entries) (row_at rows (book_path b)) ≡ option_map book_resource (get o.books b)
  found = st.gives.resources (path.Book b) named

  abbrev m : ℕ
  m = min n LAST_NUMBER

  abbrev front : List ℕ
  front = book_path b ++ codes "/"

  less : (k : ℕ) → k ≤ LAST_NUMBER → min n LAST_NUMBER < k → n < k
  less k low h = omega (arith, low, h)

  more : (k : ℕ) → k ≤ LAST_NUMBER → n < k → min n LAST_NUMBER < k
  more k low h = omega (arith, low, h)

  module _ (book : Book) (at : get o.books b ≡ Some book) (node : Row) (there : row_at rows (book_path b) ≡ Some node) where
    abbrev all : List Changed
    all = changed_in book (changes_after book.changes.last n)

    into : (z : Changed) → Has (changes_of rows front m node) z → Has all z
    into z h = rows_tell rows o st.gives (nodes_of s.now st.book) st.sound (gone_once s.now st.book) b named node there book at m n less more z h

    back : (z : Changed) → Has all z → Has (changes_of rows front m node) z
    back z h = tell_rows rows o st.gives (nodes_of s.now st.book) st.sound (gone_once s.now st.book) b named node there book at m n less more z h

    abbrev all_cards : List Row
    all_cards = lists.changed_rows (id_in (rowid node)) m rows

    abbrev all_names : List Row
    all_names = lists.gone_after (id_in (rowid node)) m rows

    card_tells : (r : Row) → Has all_cards r → Has all (card_shown rows front r)
    card_tells r h = into (card_shown rows front r) (has_left (map (card_shown rows front) all_cards) (map removed_shown all_names) _ (has_map (card_shown rows front) all_cards r h))

    name_tells : (r : Row) → Has all_names r → Has all (removed_shown r)
    name_tells r h = into (removed_shown r) (has_right (map (card_shown rows front) all_cards) (map removed_shown all_names) _ (has_map removed_shown all_names r h))

    card_numbered : (r : Row) → Has all_cards r → column r changed_number_place ≡ Int (pos (number_in (column r changed_number_place)))
    card_numbered r h =
        let x = has_mapped _ _ r h in
        subst (λ (c : Row). column c changed_number_place ≡ Int (pos (number_in (column c changed_number_place)))) (sym x.2)
        (card_number rows o st.gives (nodes_of s.now st.book) st.sound (gone_once s.now st.book) b named node there book at m n less more x.0 x.1)

    name_numbered : (r : Row) → Has all_names r → column r removed_number_place ≡ Int (pos (number_in (column r removed_number_place)))
    name_numbered r h =
        let x = has_mapped _ _ r h in
        subst (λ (c : Row). column c removed_number_place ≡ Int (pos (number_in (column c removed_number_place)))) (sym x.2)
        (name_number rows o st.gives (nodes_of s.now st.book) st.sound (gone_once s.now st.book) b named node there book at m n less more x.0 x.1)

    -- ---- the changes of cards alone
    abbrev of_card : List Changed
    of_card = filter is_of_card all

    of_card_rise : IsAscending IsEarlier of_card
    of_card_rise = ascending-filter IsEarlier is_of_card all (changes_rise book n)

    of_card_tells : (r : Row) → Has all_cards r → Has of_card (card_shown rows front r)
    of_card_tells r h = has_kept is_of_card all (card_shown rows front r) (card_tells r h) refl

    of_card_back : (z : Changed) → Has of_card z → (r : Row) × Has all_cards r × (z ≡ card_shown rows front r)
    of_card_back z h = go (has_filtered is_of_card all z h)
      where
        go : Has all z × (is_of_card z ≡ true) → (r : Row) × Has all_cards r × (z ≡ card_shown rows front r)
        go f = elim (has_either (map (card_shown rows front) all_cards) (map removed_shown all_names) z (back z f.0)) [
          | inl left ↦ has_mapped (card_shown rows front) all_cards z left
          | inr right ↦ let r = has_mapped removed_shown all_names z right in absurd (true≢false (sym f.1 ∙ ap is_of_card r.2))
        ]

    module _ (k : ℕ) (are : AreCardChangesOf rows front m (Some k) node changes) where
      abbrev first : List Row
      first = are.first_cards.ordered

      same_cards : IsPermutation (map (card_shown rows front) (take k first)) changes
      same_cards = subst (λ l. IsPermutation l changes) (λ i. map (card_shown rows front) (are.first_cards.first i)) are.same

      same_and_none : IsPermutation (map (card_shown rows front) (take k first) ++ []) changes
      same_and_none = subst (λ l. IsPermutation l changes) (sym (append-nil (map (card_shown rows front) (take k first)))) same_cards

      is_there : (r : Row) → Has first r → Has all_cards r
      is_there r h = has_permuted all_cards first are.first_cards.same r h

      in_of_card : (z : Changed) → Has changes z → Has of_card z
      in_of_card z h =
          let r = has_mapped (card_shown rows front) (take k first) z (has_permuted (map (card_shown rows front) (take k first)) changes same_cards z h) in
          subst (Has of_card) (sym r.2) (of_card_tells r.0 (is_there r.0 (has_first k first r.0 r.1)))

      card_there_or_many : (z : Changed) → Has of_card z → Has changes z ⊎ (k ≤ length (filter (before z.number) changes))
      card_there_or_many z h =
          let r = of_card_back z h in
          let found_first = first_or_many all (changes_rise book n) (card_shown rows front) (λ a c. is_gt (value_cmp (column a changed_number_place) (column c changed_number_place)) ≡ false) k first are.first_cards.in_order
          (λ t there. card_tells t (is_there t there)) (λ t u ht hu ranked. ranked_by changed_number_place t u (card_numbered t (is_there t ht)) (card_numbered u (is_there u hu)) ranked)
          r.0 (has_permuted first all_cards (IsPermutation-sym _ _ are.first_cards.same) r.0 r.1) in
          of_cards k (map (card_shown rows front) (take k first)) [] changes same_and_none z
          (subst (λ (c : Changed). Has (map (card_shown rows front) (take k first)) c ⊎ (k ≤ length (filter (before c.number) (map (card_shown rows front) (take k first))))) (sym r.2) found_first)

      first_of_card : take k changes ≡ take k of_card
      first_of_card = first_same k changes of_card rise of_card_rise in_of_card card_there_or_many

    all_of_card : AreCardChangesOf rows front m None node changes → changes ≡ of_card
    all_of_card are =
        let cards : IsPermutation all_cards are.cards = subst (IsPermutation all_cards) (sym are.first_cards.first) are.first_cards.same in
        let told : IsPermutation (map (card_shown rows front) all_cards) changes = IsPermutation-trans _ _ _ (IsPermutation-map (card_shown rows front) _ _ cards) are.same in
        same_members IsEarlier not_both changes of_card rise of_card_rise
        (λ z h. let r = has_mapped (card_shown rows front) all_cards z (has_permuted _ changes told z h) in subst (Has of_card) (sym r.2) (of_card_tells r.0 r.1))
        (λ z h. let r = of_card_back z h in has_permuted changes _ (IsPermutation-sym _ _ told) z (subst (Has (map (card_shown rows front) all_cards)) (sym r.2) (has_map (card_shown rows front) all_cards r.0 r.1)))

    first_all_of_card : (at_most : Option ℕ) → AreCardChangesOf rows front m at_most node changes → first_of at_most changes ≡ first_of at_most of_card
    first_all_of_card None are = all_of_card are
    first_all_of_card (Some k) are = first_of_card k are

    -- ---- all changes
    module _ (k : ℕ) (are : AreChangesOf rows front m (Some k) node changes) where
      abbrev cards : List Row
      cards = are.first_cards.ordered

      abbrev names : List Row
      names = are.first_names.ordered

      same : IsPermutation (map (card_shown rows front) (take k cards) ++ map removed_shown (take k names)) changes
      same = subst (λ l. IsPermutation l changes) (λ i. map (card_shown rows front) (are.first_cards.first i) ++ map removed_shown (are.first_names.first i)) are.same

      is_card : (r : Row) → Has cards r → Has all_cards r
      is_card r h = has_permuted all_cards cards are.first_cards.same r h

      is_name : (r : Row) → Has names r → Has all_names r
      is_name r h = has_permuted all_names names are.first_names.same r h

      in_all : (z : Changed) → Has changes z → Has all z
      in_all z h = go (has_either (map (card_shown rows front) (take k cards)) (map removed_shown (take k names)) z (has_permuted _ changes same z h))
        where
          go : Has (map (card_shown rows front) (take k cards)) z ⊎ Has (map removed_shown (take k names)) z → Has all z
          go (inl left) = let r = has_mapped (card_shown rows front) (take k cards) z left in subst (Has all) (sym r.2) (card_tells r.0 (is_card r.0 (has_first k cards r.0 r.1)))
          go (inr right) = let r = has_mapped removed_shown (take k names) z right in subst (Has all) (sym r.2) (name_tells r.0 (is_name r.0 (has_first k names r.0 r.1)))

      there_or_many : (z : Changed) → Has all z → Has changes z ⊎ (k ≤ length (filter (before z.number) changes))
      there_or_many z h = go (has_either (map (card_shown rows front) all_cards) (map removed_shown all_names) z (back z h))
        where
          go : Has (map (card_shown rows front) all_cards) z ⊎ Has (map removed_shown all_names) z
              → Has changes z ⊎ (k ≤ length (filter (before z.number) changes))
          go (inl left) =
              let r = has_mapped (card_shown rows front) all_cards z left in
              let first = first_or_many all (changes_rise book n) (card_shown rows front) (λ a c. is_gt (value_cmp (column a changed_number_place) (column c changed_number_place)) ≡ false) k cards are.first_cards.in_order
              (λ t there. card_tells t (is_card t there)) (λ t u ht hu ranked. ranked_by changed_number_place t u (card_numbered t (is_card t ht)) (card_numbered u (is_card u hu)) ranked)
              r.0 (has_permuted cards all_cards (IsPermutation-sym _ _ are.first_cards.same) r.0 r.1) in
              of_cards k (map (card_shown rows front) (take k cards)) (map removed_shown (take k names)) changes same z
              (subst (λ (c : Changed). Has (map (card_shown rows front) (take k cards)) c ⊎ (k ≤ length (filter (before c.number) (map (card_shown rows front) (take k cards))))) (sym r.2) first)
          go (inr right) =
              let r = has_mapped removed_shown all_names z right in
              let first = first_or_many all (changes_rise book n) removed_shown (λ a c. is_gt (value_cmp (column a removed_number_place) (column c removed_number_place)) ≡ false) k names are.first_names.in_order
              (λ t there. name_tells t (is_name t there)) (λ t u ht hu ranked. ranked_by removed_number_place t u (name_numbered t (is_name t ht)) (name_numbered u (is_name u hu)) ranked)
              r.0 (has_permuted names all_names (IsPermutation-sym _ _ are.first_names.same) r.0 r.1) in
              of_names k (map (card_shown rows front) (take k cards)) (map removed_shown (take k names)) changes same z
              (subst (λ (c : Changed). Has (map removed_shown (take k names)) c ⊎ (k ≤ length (filter (before c.number) (map removed_shown (take k names))))) (sym r.2) first)

      first_are : take k changes ≡ take k all
      first_are = first_same k changes all rise (changes_rise book n) in_all there_or_many

    all_are : AreChangesOf rows front m None node changes → changes ≡ all
    all_are are =
        let cards : IsPermutation all_cards are.cards = subst (IsPermutation all_cards) (sym are.first_cards.first) are.first_cards.same in
        let names : IsPermutation all_names are.names = subst (IsPermutation all_names) (sym are.first_names.first) are.first_names.same in
        let told : IsPermutation (changes_of rows front m node) changes =
        IsPermutation-trans _ _ _ (IsPermutation-append _ _ _ _ (IsPermutation-map (card_shown rows front) _ _ cards) (IsPermutation-map removed_shown _ _ names)) are.same in
        same_members IsEarlier not_both changes all rise (changes_rise book n) (λ z h. into z (has_permuted _ changes told z h)) (λ z h. has_permuted changes _ (IsPermutation-sym _ _ told) z (back z h))

    first_all : (at_most : Option ℕ) → AreChangesOf rows front m at_most node changes → first_of at_most changes ≡ first_of at_most all
    first_all None are = all_are are
    first_all (Some k) are = first_are k are

  pub at_book : (at_most : Option ℕ) (r : Option Book) → get o.books b ≡ r → (x : Option Row) → row_at rows (book_path b) ≡ x → AreChangesAt rows (book_path b) m at_most changes x
      → first_of at_most changes ≡ first_of at_most (unwrap_or (option_map (λ (book : Book). changed_in book (changes_after book.changes.last n)) r) [])
  at_book at_most None e None f are = ap (first_of at_most) are
  at_book at_most None e (Some node) f are = some_apart (ap (option_map (resource_of rows.entries)) (sym f) ∙ found ∙ ap (option_map book_resource) e)
  at_book at_most (Some book) e None f are = some_apart (ap (option_map book_resource) (sym e) ∙ sym found ∙ ap (option_map (resource_of rows.entries)) f)
  at_book at_most (Some book) e (Some node) f are = first_all book e node f at_most are

  pub cards_at_book : (at_most : Option ℕ) (r : Option Book) → get o.books b ≡ r → (x : Option Row) → row_at rows (book_path b) ≡ x → AreCardChangesAt rows (book_path b) m at_most changes x
      → first_of at_most changes ≡ first_of at_most (filter is_of_card (unwrap_or (option_map (λ (book : Book). changed_in book (changes_after book.changes.last n)) r) []))
  cards_at_book at_most None e None f are = ap (first_of at_most) are
  cards_at_book at_most None e (Some node) f are = some_apart (ap (option_map (resource_of rows.entries)) (sym f) ∙ found ∙ ap (option_map book_resource) e)
  cards_at_book at_most (Some book) e None f are = some_apart (ap (option_map book_resource) (sym e) ∙ sym found ∙ ap (option_map (resource_of rows.entries)) f)
  cards_at_book at_most (Some book) e (Some node) f are = first_all_of_card book e node f at_most are

pub changes_told_are : (s : State) (b : List ℕ) → IsName b → (n : ℕ) (at_most : Option ℕ) (changes : List Changed) → ShowsChanges s (book_path b) (min n LAST_NUMBER) at_most changes → DoRise changes → (o : Office) → StandsFor s o
    → first_of at_most changes ≡ first_of at_most (changed_after o b n)
changes_told_are s b named n at_most changes shows rise o stands =
    let st : IsKept s.now o = stands.0 shows.0 in
    at_book s b named n changes rise o st at_most (get o.books b) refl (row_at (rows_of s.now.trees) (book_path b)) refl (shows.1 st.book)

pub cards_told_are : (s : State) (b : List ℕ) → IsName b → (n : ℕ) (at_most : Option ℕ) (changes : List Changed) → ShowsCardChanges s (book_path b) (min n LAST_NUMBER) at_most changes → DoRise changes → (o : Office) → StandsFor s o
    → first_of at_most changes ≡ first_of at_most (cards_after o b n)
cards_told_are s b named n at_most changes shows rise o stands =
    let st : IsKept s.now o = stands.0 shows.0 in
    cards_at_book s b named n changes rise o st at_most (get o.books b) refl (row_at (rows_of s.now.trees) (book_path b)) refl (shows.1 st.book)
