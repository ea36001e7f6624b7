-- The rows of a store that are those of an Office give it.
use Rattle.book_tables_opening.proofs.Common.{◌≡◌, ℕ, ◌≤◌, true, ◌&&◌, nat_eq, List, [], ◌∷◌, length, filter, Some, unwrap_or, sym, ap, subst, ◌∙◌, arith, len, AllByRecursion, same_Some, Int, Text, Database, Row, rowid, all_has, book_path, parent_of, kind_of, Book, Office, IsSound, entries_shown, gone_shown, meta_shown, member_group, member_member, node_parent, node_parent_place, pairs_of, number_in, text_in, rows_of, has, IsBook, int_itself, row_at, kind_code, Gives, has_int, all_from_has, node_shown, whole_nodes, AreOfficeRows, IsNodeRow, IsMemberRow, IsBelow}
use Rattle.book_office_values.specs.declared.paths.Path.TheVariants as path
use Rattle.book_tables_opening.proofs.BuiltOffices.{of_kind, is_card_in, IsBuiltOf}
use Rattle.book_tables_opening.proofs.NamedMaps.{few_named}
use Rattle.book_tables_opening.proofs.PlacedRows.{Placed, IsNodeShown, persons, groups, books, cards, placed, name_in, few_placed, map_named}
use Rattle.book_tables_opening.proofs.RowForms.{rows, nodes, numbered_at, nodes_are, entries_are, removed_are, meta_is, all_mapped}
use Rattle.book_tables_opening.proofs.OfficeMaps.{properties_of, card_of, cards_in, book_of, books_in, office_of}
use Rattle.book_tables_opening.proofs.RowNames.{removed_names, row_of_book, changes_of_book}
use Rattle.book_tables_opening.proofs.RowPairs.{IsPairRow, pairs_in, told_pairs, few_members}
use Rattle.book_tables_opening.proofs.RowResources.{resources}
use Rattle.book_tables_opening.proofs.SoundOffices.{sound_of_rows}

abbrev pair_shown : Row → Row
pair_shown row = member_group row ∷ member_member row ∷ []

module _ (db : Database) (book : IsBook db) (are : AreOfficeRows (nodes db book) (entries_shown (rows db book)) (pairs_of (rows db book)) (gone_shown (rows db book)) (meta_shown (rows db book))) where
  each : AllByRecursion (IsNodeShown (nodes db book)) (rows db book).nodes
  each = all_mapped node_shown (IsNodeRow (nodes db book)) (rows db book).nodes are.each_node

  pair_row : (row : Row) → IsMemberRow (nodes db book) (pair_shown row) → IsPairRow row
  pair_row row m = record {
    group = m.group_is ∙ ap (λ v. Text (unwrap_or (text_in v) [])) (sym m.group_is);
    member = m.member_is ∙ ap (λ v. Text (unwrap_or (text_in v) [])) (sym m.member_is);
  }

  pair_rows : AllByRecursion IsPairRow (rows db book).members
  pair_rows = all_from_has IsPairRow (rows db book).members (λ row there.
      pair_row row (all_has _ (rows db book).members row (all_mapped pair_shown (IsMemberRow (nodes db book)) (rows db book).members are.each_member) there))

  abbrev office : Office
  office = office_of (rows db book) each (pairs_in (rows db book).members) are.meta_rows.epoch

  office_gives : Gives (rows db book) office
  office_gives = record {
    nodes = nodes_are db book each;
    entries = entries_are db book each are.each_entry;
    removed = removed_are db book each are.each_gone;
    resources = resources db book each are.each_entry are.homes (pairs_in (rows db book).members) are.meta_rows.epoch;
    members = told_pairs (rows db book).members pair_rows;
    gone = removed_names db book each are.each_gone are.each_entry (pairs_in (rows db book).members) are.meta_rows.epoch;
    meta = meta_is db book are.meta_rows;
  }

  -- ---- how many there are at most

  few_books : len (books_in (rows db book) each) ≤ length (filter (of_kind 4) (rows db book).nodes)
  few_books =
      let named = few_named (name_in (nodes db book) books) (λ name (e : Placed). book_of (rows db book) each name e.1) (placed (nodes db book) (rows db book).nodes each) in
      let of_books = few_placed (nodes db book) books (of_kind 4) (rows db book).nodes each
      (λ x there f name at. ap (λ v. nat_eq (number_in v) 4) f.kind ∙ ap (λ p. nat_eq (kind_code (kind_of p)) 4) at) in
      omega (arith, named, of_books)

  -- the row of a card has the number of its book's row as its parent
  in_book : (b : List ℕ) (at_book : Row) → row_at (rows db book) (book_path b) ≡ Some at_book → (x : Row) (f : IsNodeShown (nodes db book) x) (name : List ℕ) → f.at ≡ path.Card b name
      → is_card_in (rowid at_book) x ≡ true
  in_book b at_book above x f name at =
      let below : IsBelow (nodes db book) (Some (path.Book b)) (node_parent x) = subst (λ q. IsBelow (nodes db book) (parent_of q) (node_parent x)) at f.parent in
      let r = numbered_at db book (book_path b) below.0 below.1 in
      let id : Int below.0 ≡ rowid at_book = r.2 ∙ ap rowid (same_Some r.0 at_book (sym r.1 ∙ above)) in
      let kind : of_kind 5 x ≡ true = ap (λ v. nat_eq (number_in v) 5) f.kind ∙ ap (λ p. nat_eq (kind_code (kind_of p)) 5) at in
      let parent : has node_parent_place (rowid at_book) x ≡ true = ap (λ v. has node_parent_place v x) (sym id) ∙ has_int 3 x below.0 below.0 below.2 ∙ int_itself below.0 in
      λ i. kind i && parent i

  few_cards : (b : List ℕ) (at_book : Row) → row_at (rows db book) (book_path b) ≡ Some at_book → len (cards_in (rows db book) each b) ≤ length (filter (is_card_in (rowid at_book)) (rows db book).nodes)
  few_cards b at_book above =
      let named = few_named (name_in (nodes db book) (cards b)) (λ name (e : Placed). card_of (rows db book).entries e.1) (placed (nodes db book) (rows db book).nodes each) in
      let of_cards = few_placed (nodes db book) (cards b) (is_card_in (rowid at_book)) (rows db book).nodes each (λ x there f name at. in_book b at_book above x f name at) in
      omega (arith, named, of_cards)

  office_built : IsBuiltOf (rows db book) office
  office_built = record {
    gives = office_gives;
    persons = map_named (nodes db book) persons (λ name. properties_of (rows db book).entries) (rows db book).nodes each;
    groups = map_named (nodes db book) groups (λ name. properties_of (rows db book).entries) (rows db book).nodes each;
    books = map_named (nodes db book) books (book_of (rows db book) each) (rows db book).nodes each;
    changes = changes_of_book db book each are.each_gone are.each_entry;
    few_books = few_books;
    few_cards = λ b k row is above.
        let its = row_of_book db book each are.each_gone are.each_entry b k is in
        subst (λ (j : Book). len j.cards ≤ length (filter (is_card_in (rowid row)) (rows db book).nodes)) (sym its.3) (few_cards b row above);
    few_members = λ group. few_members group (rows db book).members pair_rows;
  }

-- the rows give an Office, and it is sound
pub office_of_rows : (db : Database) → IsBook db
    → AreOfficeRows (whole_nodes (rows_of db.trees)) (entries_shown (rows_of db.trees)) (pairs_of (rows_of db.trees)) (gone_shown (rows_of db.trees)) (meta_shown (rows_of db.trees))
    → (o : Office) × Gives (rows_of db.trees) o × IsSound o
office_of_rows db book are =
    let o = office db book are in
    let built = office_built db book are in
    (o, built.gives, sound_of_rows db book o built are)
