-- The removed names of the books of the Office of the rows, and their last changes.
use Rattle.book_tables_opening.proofs.Common.{◌≡◌, ◌≢◌, ℕ, true, List, [], ◌++◌, codes, find, Option, Some, None, option_map, option_and_then, unwrap_or, refl, sym, ap, subst, ◌∙◌, get, empty, get-empty, AllByRecursion, option_or, and_parts, Value, Text, Database, Row, rowid, Has, all_has, Memberships, IsName, name_cmp, IsPath, path_text, book_path, card_path, Book, StoredCard, is_same, by_option, some_apart, removed_at, unless_mapped, entries_shown, gone_shown, gone_book_place, gone_name_place, gone_number, node_number, number_in, text_in, has, IsBook, is_at, is_gone, row_at, removed_from, found_has, has_text, from_map, first_shown_at, shown_path, node_shown, IsNodeRow, IsEntryRow, IsGoneRow}
use Rattle.book_office_values.specs.declared.paths.Path.TheVariants as path
use Rattle.book_tables.specs.Rows.{removed_in}
use Rattle.book_tables_opening.proofs.ShownNodes.{none_shown_at}
use Rattle.book_tables_opening.proofs.NamedMaps.{first_named}
use Rattle.book_tables_opening.proofs.PlacedRows.{Placed, books, cards, placed, name_in, row_named, none_named, map_named, map_over_has}
use Rattle.book_tables_opening.proofs.RowForms.{rows, nodes, row_of_path, book_of_name, name_shown, all_mapped}
use Rattle.book_tables_opening.proofs.OfficeMaps.{card_of, names_gone, names_gone_are, cards_in, last_in, book_of, books_in, office_of}
use Rattle.book_tables_opening.proofs.RowResources.{same_node, cards_have, books_have}
use Rattle.book_tables_opening.proofs.BuiltOffices.{HasChanges}

module _ (db : Database) (book : IsBook db) (each : AllByRecursion (λ row. IsNodeRow (nodes db book) (node_shown row)) (rows db book).nodes)
    (all_gone : AllByRecursion (IsGoneRow (nodes db book)) (gone_shown (rows db book))) (all_entries : AllByRecursion (IsEntryRow (nodes db book)) (entries_shown (rows db book))) where
  abbrev gone : List Row
  gone = (rows db book).gone

  abbrev number : Row → ℕ
  number row = number_in (gone_number row)

  abbrev number_of_card : List ℕ → Row → ℕ
  number_of_card name row = number_in (node_number row)

  gone_row : (x : Row) → Has gone x → IsGoneRow (nodes db book) (name_shown x)
  gone_row x there = all_has _ gone x (all_mapped name_shown (IsGoneRow (nodes db book)) gone all_gone) there

  -- the name of a row that is found is that which was looked for
  name_found : (id : Value) (name : List ℕ) (x : Row) (g : IsGoneRow (nodes db book) (name_shown x)) → is_gone id name x ≡ true → g.name ≡ name
  name_found id name x g passes = is_same g.name name (sym (has_text 2 x g.name name g.name_is) ∙ (and_parts (has gone_book_place id x) (has gone_name_place (Text name) x) passes).1)

  -- the name of a card is no removed one
  none_gone : (b name : List ℕ) → IsPath (path.Book b) → (at_book row : Row) → row_at (rows db book) (book_path b) ≡ Some at_book → row_at (rows db book) (card_path b name) ≡ Some row
      → find (is_gone (rowid at_book) name) gone ≡ None
  none_gone b name named at_book row above found = by_option (find (is_gone (rowid at_book) name) gone) (λ none. none) (λ x is. absurd (taken x is))
    where
      taken : (x : Row) → find (is_gone (rowid at_book) name) gone ≡ Some x → ⊥
      taken x is =
          let there = found_has (is_gone (rowid at_book) name) gone x is in
          let g = gone_row x there.0 in
          let its = book_of_name db book each x g in
          let one : its.0 ≡ at_book = same_node db book gone_book_place its.0 at_book its.1 (found_has (is_at (book_path b)) (rows db book).nodes at_book above).0 x its.3 (and_parts (has gone_book_place (rowid at_book) x) (has gone_name_place (Text name) x) there.1).0 in
          let f = row_of_path db book each (path.Book b) named at_book above in
          let of_book : shown_path g.book ≡ Text (book_path b) = ap shown_path (its.2 ∙ ap node_shown one) ∙ f.0.path ∙ ap (λ p. Text (path_text p)) f.1 in
          let free : first_shown_at (nodes db book) (card_path b name) ≡ None =
          (λ i. first_shown_at (nodes db book) (unwrap_or (text_in (sym of_book i)) [] ++ codes "/" ++ sym (name_found (rowid at_book) name x g there.1) i)) ∙ g.free in
          some_apart (sym found ∙ none_shown_at (rows db book) (card_path b name) free)

  -- ---- what a book has at a name

  module _ (b name : List ℕ) (id : Value) where
    abbrev first : Option Placed
    first = first_named (name_in (nodes db book) (cards b)) name (placed (nodes db book) (rows db book).nodes each)

    named_card : (e : Placed) → first ≡ Some e → IsPath (path.Card b name)
    named_card e is = row_named (nodes db book) (cards b) (rows db book).nodes each name e is

    last_have : IsPath (path.Card b name) → get (last_in (rows db book) each b id) name ≡ option_or (option_map (number_of_card name) (row_at (rows db book) (card_path b name))) (get (names_gone gone id) name)
    last_have named = map_over_has (nodes db book) (cards b) number_of_card (rows db book).nodes each (names_gone gone id) name named

    no_last : first ≡ None → get (last_in (rows db book) each b id) name ≡ get (names_gone gone id) name
    no_last none = none_named (nodes db book) (cards b) number_of_card (rows db book).nodes each (names_gone gone id) name none

    no_card : first ≡ None → get (cards_in (rows db book) each b) name ≡ None
    no_card none = none_named (nodes db book) (cards b) (λ k. card_of (rows db book).entries) (rows db book).nodes each empty name none ∙ get-empty name_cmp name

    -- a name that no card has, with its last change
    without_card : get (cards_in (rows db book) each b) name ≡ None → get (last_in (rows db book) each b id) name ≡ get (names_gone gone id) name
        → unless_mapped (get (cards_in (rows db book) each b) name) (get (last_in (rows db book) each b id) name) ≡ option_map number (find (is_gone id name) gone)
    without_card no_card_here last = (λ i. unless_mapped (no_card_here i) (last i)) ∙ names_gone_are gone id name

  removed_of : (b name : List ℕ) → IsPath (path.Book b) → (at_book : Row) → row_at (rows db book) (book_path b) ≡ Some at_book
      → option_map number (find (is_gone (rowid at_book) name) gone) ≡ unless_mapped (get (cards_in (rows db book) each b) name) (get (last_in (rows db book) each b (rowid at_book)) name)
  removed_of b name named at_book above = by_option (first b name (rowid at_book))
      (λ none. sym (without_card b name (rowid at_book) (no_card b name (rowid at_book) none) (no_last b name (rowid at_book) none)))
      (λ e is. of_card (named_card b name (rowid at_book) e is) (row_at (rows db book) (card_path b name)) refl)
    where
      of_card : IsPath (path.Card b name) → (r : Option Row) → row_at (rows db book) (card_path b name) ≡ r
          → option_map number (find (is_gone (rowid at_book) name) gone) ≡ unless_mapped (get (cards_in (rows db book) each b) name) (get (last_in (rows db book) each b (rowid at_book)) name)
      of_card is_card None at =
          let have = cards_have db book each all_entries b name is_card ∙ ap (option_map (card_of (rows db book).entries)) at in
          let last = last_have b name (rowid at_book) is_card ∙ ap (λ r. option_or (option_map (number_of_card name) r) (get (names_gone gone (rowid at_book)) name)) at in
          sym (without_card b name (rowid at_book) have last)
      of_card is_card (Some row) at =
          let have = cards_have db book each all_entries b name is_card ∙ ap (option_map (card_of (rows db book).entries)) at in
          ap (option_map number) (none_gone b name named at_book row above at)
          ∙ sym (ap (λ (r : Option StoredCard). unless_mapped r (get (last_in (rows db book) each b (rowid at_book)) name)) have)

  -- the removed names of a book are those of `gone`
  pub removed_names : (pairs : Memberships) (epoch : ℕ) (b name : List ℕ) → IsName b → removed_in (rows db book) b name ≡ removed_at (office_of (rows db book) each pairs epoch) b name
  removed_names pairs epoch b name named =
      of_book (row_at (rows db book) (book_path b)) refl
      ∙ sym (ap (option_and_then (λ (k : Book). unless_mapped (get k.cards name) (get k.changes.last name))) (books_have db book each all_entries b named))
    where
      of_book : (s : Option Row) → row_at (rows db book) (book_path b) ≡ s
          → removed_from gone name s ≡ option_and_then (λ (k : Book). unless_mapped (get k.cards name) (get k.changes.last name)) (option_map (book_of (rows db book) each b) s)
      of_book None above = refl
      of_book (Some at_book) above = removed_of b name named at_book above

  -- ---- the last changes of a book

  gone_named : (id : Value) (name : List ℕ) → get (names_gone gone id) name ≢ None → IsName name
  gone_named id name there = by_option (find (is_gone id name) gone)
      (λ none. absurd (there (names_gone_are gone id name ∙ ap (option_map number) none)))
      (λ x is.
      let found = found_has (is_gone id name) gone x is in
      let g = gone_row x found.0 in
      subst IsName (name_found id name x g found.1) g.named)

  changes_of_row : (b : List ℕ) (at_book : Row) → HasChanges (book_of (rows db book) each b at_book)
  changes_of_row b at_book = record {
    changed = λ name there. by_option (first b name (rowid at_book))
        (λ none. absurd (there (no_card b name (rowid at_book) none)))
        (λ e is. has_last name there (named_card b name (rowid at_book) e is));
    names = λ name there. by_option (first b name (rowid at_book))
        (λ none. gone_named (rowid at_book) name (λ e. there (no_last b name (rowid at_book) none ∙ e)))
        (λ e is. (named_card b name (rowid at_book) e is).1);
  }
    where
      has_last : (name : List ℕ) → get (cards_in (rows db book) each b) name ≢ None → IsPath (path.Card b name) → get (last_in (rows db book) each b (rowid at_book)) name ≢ None
      has_last name there is_card none = by_option (row_at (rows db book) (card_path b name))
          (λ no_row. there (cards_have db book each all_entries b name is_card ∙ ap (option_map (card_of (rows db book).entries)) no_row))
          (λ row at. some_apart (sym (last_have b name (rowid at_book) is_card ∙ ap (λ r. option_or (option_map (number_of_card name) r) (get (names_gone gone (rowid at_book)) name)) at) ∙ none))

  -- the row of a book, and the book that it gives
  pub row_of_book : (b : List ℕ) (k : Book) → get (books_in (rows db book) each) b ≡ Some k → IsPath (path.Book b) × (row : Row) × (row_at (rows db book) (book_path b) ≡ Some row) × (k ≡ book_of (rows db book) each b row)
  row_of_book b k is =
      let named : IsPath (path.Book b) = map_named (nodes db book) books (book_of (rows db book) each) (rows db book).nodes each b (λ none. some_apart (sym is ∙ none)) in
      from_map (book_of (rows db book) each b) (row_at (rows db book) (book_path b)) k (sym (books_have db book each all_entries b named) ∙ is) (λ row at same. (named, row, at, sym same))

  pub changes_of_book : (b : List ℕ) (k : Book) → get (books_in (rows db book) each) b ≡ Some k → HasChanges k
  changes_of_book b k is = let row = row_of_book b k is in subst HasChanges (sym row.3) (changes_of_row b row.1)
