-- The books and the cards of a sound Office's rows are few.
use Rattle.book_tables_opening.proofs.Common.{◌≡◌, ℕ, ℤ, pos, ◌≤◌, nat_eq, true, List, filter, length, Some, option_map, unwrap_or, refl, sym, ap, subst, ◌∙◌, true≢false, arith, get, len, same_Some, Int, id_in, Database, Row, rowid, Has, all_has, has_filtered, MAX_CARDS, MAX_BOOKS, Book, Office, Path, path_text, book_path, parent_of, kind_of, by_option, properties_resource, IsSound, node_parent, number_in, Rows, rows_of, has, IsBook, row_at, kind_code, IsNode, IsParent, Gives, nodes_of, number_of_row, has_mapped, is_of_kind, Key, same_key, AreAtMost, shown_parent, node_shown, whole_nodes}
use Rattle.book_office_values.specs.declared.paths.Path.TheVariants as path
use Rattle.book_office_values.specs.declared.paths.Kind.TheVariants as kind
use Rattle.book_office.specs.Resources.{count_at}
use Rattle.book_tables_rows.specs.Writes.{is_under}
use Rattle.book_tables.specs.Stands.{IsNodeAt}
use Rattle.book_tables.proofs.ChildRows.{count_is}
use Rattle.book_tables_opening.specs.Opening.{card_keys}
use Rattle.book_tables_opening.specs.Shown.{shown_parent_place}
use Rattle.book_tables_opening.proofs.CountedRows.{count_shown, count_bounded, count_weaker, count_picked, are_at_most}
use Rattle.book_tables_opening.proofs.Counts.{is_key}
use Rattle.book_tables_opening.proofs.GivenLists.{has_number}
use Rattle.book_tables_opening.proofs.SoundResources.{row_at_path}
use Rattle.book_tables_opening.proofs.RowForms.{book_at}

abbrev card_key : Row → Key
card_key row = (id_in (shown_parent row), pos 0)

-- a path whose kind is a card's, or a book's, is that of one
pub card_of : (p : Path) → nat_eq (kind_code (kind_of p)) 5 ≡ true → (b : List ℕ) × (c : List ℕ) × (p ≡ path.Card b c)
card_of path.Root h = absurd (true≢false (sym h))
card_of path.People h = absurd (true≢false (sym h))
card_of path.Groups h = absurd (true≢false (sym h))
card_of path.Books h = absurd (true≢false (sym h))
card_of (path.Person n) h = absurd (true≢false (sym h))
card_of (path.Group n) h = absurd (true≢false (sym h))
card_of (path.Book b) h = absurd (true≢false (sym h))
card_of (path.Card b c) h = (b, c, refl)

module _ (db : Database) (book : IsBook db) (o : Office) (gives : Gives (rows_of db.trees) o) (sound : IsSound o) where
  abbrev rows : Rows
  rows = rows_of db.trees

  -- a card's row: its path, and the row and the number of its book
  pub record IsCardRow (x : Row) : Type 0 where
    pub b : List ℕ
    pub c : List ℕ
    pub at : IsNodeAt rows x (path.Card b c)
    pub book_row : Row
    pub found : row_at rows (book_path b) ≡ Some book_row
    pub id : ℤ
    pub id_is : rowid book_row ≡ Int id
    pub under : node_parent x ≡ Int id

  pub card_row : (x : Row) → Has rows.nodes x → is_of_kind 5 (node_shown x) ≡ true → IsCardRow x
  card_row x there of_card =
      let node = all_has (IsNode rows) rows.nodes x gives.nodes there in
      let card = card_of node.0 (ap (λ v. nat_eq (number_in v) 5) (sym node.1.kind) ∙ of_card) in
      let at : IsNodeAt rows x (path.Card card.0 card.1) = subst (IsNodeAt rows x) card.2 node.1 in
      let number = number_of_row rows gives.nodes (nodes_of db book).shaped (book_path card.0) at.parent.0 at.parent.1 in
      record { b = card.0; c = card.1; at = at; book_row = at.parent.0; found = at.parent.1; id = number.0; id_is = number.1; under = at.parent.2 ∙ number.1 }

  -- a book has few cards
  few_of_book : (b : List ℕ) → count_at o (path.Book b) ≤ MAX_CARDS
  few_of_book b = by_option (get o.books b)
      (λ none. subst (λ n. n ≤ MAX_CARDS) (sym (ap (λ r. unwrap_or (option_map (λ (k : Book). len k.cards) r) 0) none)) (omega arith))
      (λ k at. subst (λ n. n ≤ MAX_CARDS) (sym (ap (λ r. unwrap_or (option_map (λ (k : Book). len k.cards) r) 0) at)) (sound.books b k at).1.few)

  few_under : (x : Row) (card : IsCardRow x) → length (filter (is_under (rowid card.book_row)) rows.nodes) ≤ MAX_CARDS
  few_under x card = subst (λ n. n ≤ MAX_CARDS) (sym (count_is rows o gives (nodes_of db book) sound (path.Book card.b) card.at.named.0 card.book_row card.found)) (few_of_book card.b)

  -- the cards with a key are under one book
  under_one : (x y : Row) (card : IsCardRow x) → IsCardRow y → card_key (node_shown x) ≡ card_key (node_shown y) → is_under (rowid card.book_row) y ≡ true
  under_one x y card other same =
      let one : other.id ≡ card.id = sym (ap id_in other.under) ∙ sym (ap (λ k. k.0) same) ∙ ap id_in card.under in
      has_number 3 y (rowid card.book_row) card.id (other.under ∙ ap Int one) card.id_is

  few_keys : (k : Key) → length (filter (λ z. same_key k (card_key z)) (filter (is_of_kind 5) (whole_nodes rows))) ≤ MAX_CARDS
  few_keys k = count_bounded (λ z. same_key k (card_key z)) MAX_CARDS (filter (is_of_kind 5) (whole_nodes rows)) (λ z picked passes.
      let its = has_filtered (is_of_kind 5) (whole_nodes rows) z picked in
      let x = has_mapped node_shown rows.nodes z its.0 in
      let card = card_row x.0 x.1 (ap (is_of_kind 5) (sym x.2) ∙ its.1) in
      let fewer = count_picked (is_of_kind 5) (λ w. same_key k (card_key w)) (has shown_parent_place (rowid card.book_row)) (whole_nodes rows) (λ w there of_card also.
      let y = has_mapped node_shown rows.nodes w there in
      let other = card_row y.0 y.1 (ap (is_of_kind 5) (sym y.2) ∙ of_card) in
      ap (has shown_parent_place (rowid card.book_row)) y.2 ∙ under_one x.0 y.0 card other (ap card_key (sym x.2) ∙ sym (is_key k _ passes) ∙ is_key k _ also ∙ ap card_key y.2)) in
      let shown = count_shown node_shown (has shown_parent_place (rowid card.book_row)) rows.nodes in
      let few = few_under x.0 card in
      omega (arith, fewer, shown, few))

  pub cards : AreAtMost MAX_CARDS (card_keys (whole_nodes rows))
  cards = are_at_most MAX_CARDS (card_keys (whole_nodes rows)) (λ k. subst (λ n. n ≤ MAX_CARDS) (sym (count_shown card_key (same_key k) (filter (is_of_kind 5) (whole_nodes rows)))) (few_keys k))

  -- ---- books

  books_under : (home : Row) → row_at rows (path_text path.Books) ≡ Some home → length (filter (is_of_kind 4) (whole_nodes rows)) ≤ length (filter (has shown_parent_place (rowid home)) (whole_nodes rows))
  books_under home found = count_weaker (is_of_kind 4) (has shown_parent_place (rowid home)) (whole_nodes rows) (λ z there of_book.
      let x = has_mapped node_shown rows.nodes z there in
      let node = all_has (IsNode rows) rows.nodes x.0 gives.nodes x.1 in
      let at = book_at node.0 (ap (λ v. nat_eq (number_in v) 4) (sym node.1.kind) ∙ ap (is_of_kind 4) (sym x.2) ∙ of_book) in
      let parent : IsParent rows (node_parent x.0) (Some path.Books) = subst (λ p. IsParent rows (node_parent x.0) (parent_of p)) at.1 node.1.parent in
      let number = number_of_row rows gives.nodes (nodes_of db book).shaped (path_text path.Books) home found in
      let one : parent.0 ≡ home = same_Some _ _ (sym parent.1 ∙ found) in
      ap (has shown_parent_place (rowid home)) x.2 ∙ has_number 3 x.0 (rowid home) number.0 (parent.2 ∙ ap rowid one ∙ number.1) number.1)

  pub books : length (filter (is_of_kind 4) (whole_nodes rows)) ≤ MAX_BOOKS
  books = row_at_path rows o gives path.Books tt (properties_resource kind.Home 0 o.books_home) refl (λ home found is.
      let fewer = books_under home found in
      let shown = count_shown node_shown (has shown_parent_place (rowid home)) rows.nodes in
      let count : length (filter (is_under (rowid home)) rows.nodes) ≡ len o.books = count_is rows o gives (nodes_of db book) sound path.Books tt home found in
      let few = sound.few in
      omega (arith, fewer, shown, count, few))
