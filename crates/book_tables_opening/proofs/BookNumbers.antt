-- The numbers of a book in an Office of the rows: from one to the book's, and all different.
use Rattle.book_tables_opening.proofs.Common.{◌≡◌, ◌≢◌, ◌⊎◌, inl, inr, ℕ, ℤ, pos, ◌+◌, ◌≤◌, nat_eq, true, List, [], ◌∷◌, map, filter, find, length, Some, None, option_map, option_and_then, unwrap_or, sym, ap, subst, ◌∙◌, arith, get, AllByRecursion, and_parts, same_Some, Int, Text, id_in, Row, rowid, IsShaped, Has, all_has, IsName, Book, Office, StoredCard, book_path, card_path, is_same, by_names, by_option, some_apart, one_text, book_resource, card_resource, number_of, removed_at, unless_mapped, gone_book, gone_book_place, gone_name, gone_number, node_number, node_parent, number_in, Rows, has, is_at, is_gone, gone_shown, row_at, resource_of, removed_from, Gives, found_has, has_text, from_map, same_rowid, has_map, is_of_kind, IsNodeRow, IsGoneRow, Key, same_key, AreAtMost, change_keys, IsWithinBook, shown_parent, shown_path, node_shown, whole_nodes}
use Rattle.sqlite_trees.specs.declared.store.Shape.TheVariants.{Table as TableShape}
use Rattle.sqlite_rules.proofs.ListLemmas.{has_kept, has_left, has_right}
use Rattle.book_office_values.specs.declared.paths.Path.TheVariants as path
use Rattle.book_tables_rows.specs.Columns.{node_path}
use Rattle.book_tables.proofs.RowFacts.{found_at}
use Rattle.book_tables.proofs.LeftRows.{same_words}
use Rattle.book_tables_opening.specs.Shown.{shown_gone_book, shown_gone_name, shown_gone_number, shown_number}
use Rattle.book_tables_opening.proofs.BuiltOffices.{HasChanges}
use Rattle.book_tables_opening.proofs.CountedRows.{count_one, count_two, count_append, same_keys, at_most}
use Rattle.book_tables_opening.proofs.ListRows.{same_number}
use Rattle.book_tables_opening.proofs.RowsOfPaths.{row_of}
use Rattle.book_tables_opening.proofs.ShownNodes.{number_shown, node_of_is}
use Rattle.book_tables_opening.proofs.SoundResources.{row_at_path, card_there}

abbrev removed_shown : Row → Row
removed_shown row = gone_book row ∷ gone_name row ∷ gone_number row ∷ []

abbrev card_key : Row → Key
card_key row = (id_in (shown_parent row), id_in (shown_number row))

abbrev gone_key : Row → Key
gone_key row = (id_in (shown_gone_book row), id_in (shown_gone_number row))

card_named : (b c d : List ℕ) → path.Card b c ≡ path.Card b d → c ≡ d
card_named b c d e = cc

module _ (rows : Rows) (o : Office) (gives : Gives rows o) (shaped : IsShaped TableShape rows.nodes)
    (nodes_are : AllByRecursion (IsNodeRow (whole_nodes rows)) (whole_nodes rows)) (gone_are : AllByRecursion (IsGoneRow (whole_nodes rows)) (gone_shown rows))
    (b : List ℕ) (named_b : IsName b) (book : Book) (here : get o.books b ≡ Some book) (changes : HasChanges book)
    (book_row : Row) (found_book : row_at rows (book_path b) ≡ Some book_row) (book_is : resource_of rows.entries book_row ≡ book_resource book) (id : ℤ) (id_is : rowid book_row ≡ Int id) where
  -- a card of the book has its row, with the number of the last change
  record HasCardRow (name : List ℕ) (n : ℕ) : Type 0 where
    row : Row
    found : row_at rows (card_path b name) ≡ Some row
    kind : is_of_kind 5 (node_shown row) ≡ true
    key : card_key (node_shown row) ≡ (id, pos n)

  -- a removed name of the book has its row, with the number
  record HasGoneRow (name : List ℕ) (n : ℕ) : Type 0 where
    row : Row
    there : Has rows.gone row
    name_is : gone_name row ≡ Text name
    key : gone_key (removed_shown row) ≡ (id, pos n)

  -- ---- each last change has a row

  card_row : (name : List ℕ) (n : ℕ) → IsName name → get book.changes.last name ≡ Some n → (card : StoredCard) → get book.cards name ≡ Some card → HasCardRow name n
  card_row name n named last card at = row_at_path rows o gives (path.Card b name) (named_b, named) (card_resource (number_of book name) card) (card_there o b name book card here at) (λ row found is.
      let it = row_of rows nodes_are (path.Card b name) (named_b, named) row found in
      let number : number_in (node_number row) ≡ n = ap (λ r. r.number) is ∙ ap (λ m. unwrap_or m 0) last in
      let above : it.parent.0 ≡ id = same_Some _ _ (sym it.parent.1 ∙ number_shown rows (book_path b) ∙ ap (option_map (λ r. id_in (rowid r))) found_book ∙ ap (λ v. Some (id_in v)) id_is) in
      let first : id_in (node_parent row) ≡ id = ap id_in it.parent.2 ∙ above in
      let second : id_in (node_number row) ≡ pos n = ap id_in it.natural ∙ ap pos number in
      record { row = row; found = found; kind = ap (λ v. nat_eq (number_in v) 5) it.kind; key = λ i. (first i, second i) })

  gone_row : (name : List ℕ) (n : ℕ) → get book.changes.last name ≡ Some n → get book.cards name ≡ None → HasGoneRow name n
  gone_row name n last none =
      let removed : removed_at o b name ≡ Some n =
      ap (option_and_then (λ (book : Book). unless_mapped (get book.cards name) (get book.changes.last name))) here ∙ ap (λ c. unless_mapped c (get book.changes.last name)) none ∙ last in
      let in_gone = ap (removed_from rows.gone name) (sym found_book) ∙ gives.gone b name named_b ∙ removed in
      from_map (λ row. number_in (gone_number row)) (find (is_gone (rowid book_row) name) rows.gone) n in_gone (λ row found is.
      let passes = found_has (is_gone (rowid book_row) name) rows.gone row found in
      let both = and_parts _ _ passes.1 in
      let it = all_has (IsGoneRow (whole_nodes rows)) (gone_shown rows) (removed_shown row) gone_are (has_map removed_shown rows.gone row passes.0) in
      let first : gone_book row ≡ Int id = same_number rows o gives shaped nodes_are 1 row it.book it.there id (ap (λ v. has gone_book_place v row) (sym id_is) ∙ both.0) in
      let named : it.name ≡ name = is_same it.name name (sym (has_text 2 row it.name name it.name_is) ∙ both.1) in
      let number : id_in (gone_number row) ≡ pos n = ap id_in it.natural ∙ ap pos is in
      record { row = row; there = passes.0; name_is = it.name_is ∙ ap Text named; key = λ i. (id_in (first i), number i) })

  changed_name : (name : List ℕ) (n : ℕ) → get book.changes.last name ≡ Some n → IsName name
  changed_name name n last = changes.names name (λ none. some_apart (sym last ∙ none))

  change_row : (name : List ℕ) (n : ℕ) → get book.changes.last name ≡ Some n → HasCardRow name n ⊎ HasGoneRow name n
  change_row name n last = by_option (get book.cards name)
      (λ none. inr (gone_row name n last none))
      (λ card at. inl (card_row name n (changed_name name n last) last card at))

  -- ---- where its key is

  abbrev cards : List Row
  cards = filter (is_of_kind 5) (whole_nodes rows)

  shown_card : {name : List ℕ} {n : ℕ} → (c : HasCardRow name n) → Has cards (node_shown c.row)
  shown_card {name = name} c =
      has_kept (is_of_kind 5) (whole_nodes rows) (node_shown c.row) (has_map node_shown rows.nodes c.row (found_has (is_at (card_path b name)) rows.nodes c.row c.found).0) c.kind

  shown_gone : {name : List ℕ} {n : ℕ} → (g : HasGoneRow name n) → Has (gone_shown rows) (removed_shown g.row)
  shown_gone g = has_map removed_shown rows.gone g.row g.there

  key_there : (name : List ℕ) (n : ℕ) → HasCardRow name n ⊎ HasGoneRow name n → Has (change_keys (whole_nodes rows) (gone_shown rows)) (id, pos n)
  key_there name n (inl c) = has_left (map card_key cards) (map gone_key (gone_shown rows)) (id, pos n) (subst (Has (map card_key cards)) c.key (has_map card_key cards (node_shown c.row) (shown_card c)))
  key_there name n (inr g) =
      has_right (map card_key cards) (map gone_key (gone_shown rows)) (id, pos n) (subst (Has (map gone_key (gone_shown rows))) g.key (has_map gone_key (gone_shown rows) (removed_shown g.row) (shown_gone g)))

  -- ---- from one to the book's number

  pub numbers_within : AllByRecursion (IsWithinBook (whole_nodes rows)) (change_keys (whole_nodes rows) (gone_shown rows))
      → (name : List ℕ) (n : ℕ) → get book.changes.last name ≡ Some n → (1 ≤ n) × (n ≤ book.changes.number)
  numbers_within within name n last =
      let w = all_has (IsWithinBook (whole_nodes rows)) (change_keys (whole_nodes rows) (gone_shown rows)) (id, pos n) within (key_there name n (change_row name n last)) in
      let its = node_of_is rows (Int id) w.book w.there in
      let one : its.0 ≡ book_row = same_rowid rows.nodes its.0 book_row shaped.0 its.1 (found_has (is_at (book_path b)) rows.nodes book_row found_book).0 (sym its.3 ∙ sym id_is) in
      let number : number_in (shown_number w.book) ≡ book.changes.number = ap (λ r. number_in (shown_number r)) its.2 ∙ ap (λ r. number_in (node_number r)) one ∙ ap (λ r. r.number) book_is in
      let same : n ≡ w.number = let e = w.number_is in cc in
      let from_one = w.from_one in
      let to_last = w.to_last in
      (omega arith, omega arith)

  -- ---- all different

  module _ (different : AreAtMost 1 (change_keys (whole_nodes rows) (gone_shown rows))) where
    most : (n : ℕ) → length (filter (same_key (id, pos n)) (map card_key cards)) + length (filter (same_key (id, pos n)) (map gone_key (gone_shown rows))) ≤ 1
    most n = subst (λ m. m ≤ 1) (count_append (same_key (id, pos n)) (map card_key cards) (map gone_key (gone_shown rows)))
        (at_most 1 (change_keys (whole_nodes rows) (gone_shown rows)) different (id, pos n))

    card_text : (a : List ℕ) (n : ℕ) → (x : HasCardRow a n) → node_path x.row ≡ Text (card_path b a)
    card_text a n x = found_at rows gives.nodes shaped (card_path b a) x.row x.found

    two_cards : (a c : List ℕ) (n : ℕ) → IsName a → IsName c → HasCardRow a n → HasCardRow c n → a ≢ c → ⊥
    two_cards a c n named_a named_c x y apart =
        let differ : node_shown x.row ≢ node_shown y.row = λ same.
        apart (card_named b a c (one_text (path.Card b a) (path.Card b c) (named_b, named_a) (named_b, named_c) (same_words _ _ (sym (card_text a n x) ∙ ap shown_path same ∙ card_text c n y)))) in
        let two = count_two card_key (same_key (id, pos n)) cards (node_shown x.row) (node_shown y.row) (shown_card x) (shown_card y) differ
        (same_keys (id, pos n) _ (sym x.key)) (same_keys (id, pos n) _ (sym y.key)) in
        let few = most n in
        omega arith

    two_gone : (a c : List ℕ) (n : ℕ) → HasGoneRow a n → HasGoneRow c n → a ≢ c → ⊥
    two_gone a c n x y apart =
        let differ : removed_shown x.row ≢ removed_shown y.row = λ same. apart (same_words _ _ (sym x.name_is ∙ ap shown_gone_name same ∙ y.name_is)) in
        let two = count_two gone_key (same_key (id, pos n)) (gone_shown rows) (removed_shown x.row) (removed_shown y.row) (shown_gone x) (shown_gone y) differ
        (same_keys (id, pos n) _ (sym x.key)) (same_keys (id, pos n) _ (sym y.key)) in
        let few = most n in
        omega arith

    one_of_each : (a c : List ℕ) (n : ℕ) → HasCardRow a n → HasGoneRow c n → ⊥
    one_of_each a c n x y =
        let card = count_one (same_key (id, pos n)) (map card_key cards) (card_key (node_shown x.row)) (has_map card_key cards (node_shown x.row) (shown_card x)) (same_keys (id, pos n) _ (sym x.key)) in
        let gone = count_one (same_key (id, pos n)) (map gone_key (gone_shown rows)) (gone_key (removed_shown y.row)) (has_map gone_key (gone_shown rows) (removed_shown y.row) (shown_gone y))
        (same_keys (id, pos n) _ (sym y.key)) in
        let few = most n in
        omega arith

    two_rows : (a c : List ℕ) (n : ℕ) → IsName a → IsName c → HasCardRow a n ⊎ HasGoneRow a n → HasCardRow c n ⊎ HasGoneRow c n → a ≢ c → ⊥
    two_rows a c n named_a named_c (inl x) (inl y) apart = two_cards a c n named_a named_c x y apart
    two_rows a c n named_a named_c (inl x) (inr y) apart = one_of_each a c n x y
    two_rows a c n named_a named_c (inr x) (inl y) apart = one_of_each c a n y x
    two_rows a c n named_a named_c (inr x) (inr y) apart = two_gone a c n x y apart

    pub numbers_differ : (a c : List ℕ) (n : ℕ) → get book.changes.last a ≡ Some n → get book.changes.last c ≡ Some n → a ≡ c
    numbers_differ a c n last_a last_c =
        by_names a c (λ _. a ≡ c) (λ is. is) (λ apart. absurd (two_rows a c n (changed_name a n last_a) (changed_name c n last_c) (change_row a n last_a) (change_row c n last_c) apart))
