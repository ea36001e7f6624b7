-- The Office of the rows has at each path the resource of the row at the path.
use Rattle.book_tables_opening.proofs.Common.{◌≡◌, ◌≢◌, ℕ, pos, true, false, nat_eq, List, [], map, Option, Some, None, option_map, option_and_then, unwrap_or, refl, sym, ap, subst, ◌∙◌, true≢false, get, AllByRecursion, option_or, and_parts, Value, Int, id_in, Database, Row, column, rowid, Has, all_has, Memberships, IsPath, path_text, book_path, card_path, parent_of, kind_of, Book, Kind, Path, some_apart, resource_at, properties_resource, book_resource, card_resource, card_in, number_of, entries_shown, ace_node, ace_protected, ace_protected_place, node_kind, node_number, node_parent, node_text, number_in, text_in, has, IsBook, is_at, is_entry, by_place, flag, row_at, kind_code, flag_in, entry_of, list_in, resource_of, found_has, has_int, same_ints, all_from_has, same_rowid, first_shown_at, is_of_kind, node_shown, IsNodeRow, IsEntryRow, IsContent, IsChangeNumber, IsBelow}
use Rattle.std.specs.FinSet as set
use Rattle.std.proofs.lemmas.Bool.{false_from_ne_true}
use Rattle.sqlite_keyed.specs.Lists.{sort_by}
use Rattle.book_office_values.specs.Fresh.{empty_properties}
use Rattle.book_office_values.specs.declared.paths.Kind.TheVariants as kind
use Rattle.book_office_values.specs.declared.paths.Path.TheVariants as path
use Rattle.book_tables_rows.specs.Columns.{ace_node_place}
use Rattle.book_tables_rows.proofs.Once.{none_passes}
use Rattle.book_tables.specs.Rows.{kind_in, resource_in}
use Rattle.book_tables.proofs.PlacedRows.{kind_told}
use Rattle.book_tables_opening.specs.Opening.{HasHomes}
use Rattle.book_tables_opening.proofs.ShownNodes.{shown_at, node_of_is}
use Rattle.book_tables_opening.proofs.PlacedRows.{persons, groups, books, cards, map_has, map_over_has}
use Rattle.book_tables_opening.proofs.RowForms.{rows, nodes, table_nodes, number_of_node, numbered_at, row_of_path, entry_shown, all_mapped}
use Rattle.book_tables_opening.proofs.OfficeMaps.{properties_of, card_of, names_gone, cards_in, last_in, book_of, home_at, office_of}

module _ (db : Database) (book : IsBook db) where
  -- a value is the number of one row at most
  pub same_node : (place : ℕ) (r row : Row) → Has (rows db book).nodes r → Has (rows db book).nodes row → (x : Row) → column x place ≡ rowid r → has place (rowid row) x ≡ true → r ≡ row
  same_node place r row in_r in_row x its passes =
      let k : rowid row ≡ Int (id_in (rowid row)) = number_of_node db book row in_row in
      let j : rowid r ≡ Int (id_in (rowid r)) = number_of_node db book r in_r in
      let one : id_in (rowid r) ≡ id_in (rowid row) = same_ints place x (id_in (rowid r)) (id_in (rowid row)) (its ∙ j) (ap (λ v. has place v x) (sym k) ∙ passes) in
      same_rowid (rows db book).nodes r row (table_nodes db book).shaped.0 in_r in_row (j ∙ ap Int one ∙ sym k)

  module _ (each : AllByRecursion (λ row. IsNodeRow (nodes db book) (node_shown row)) (rows db book).nodes) where
    abbrev entries : List Row
    entries = (rows db book).entries

    -- ---- a resource other than a card

    as_properties : (row : Row) (k : Kind) (n : ℕ) → kind_in (node_kind row) ≡ k → text_in (node_text row) ≡ None → number_in (node_number row) ≡ n
        → resource_of entries row ≡ properties_resource k n (properties_of entries row)
    as_properties row k n of_kind text number = λ i. record (resource_of entries row) { kind = of_kind i; text = text i; number = number i }

    kind_of_row : (row : Row) (f : IsNodeRow (nodes db book) (node_shown row)) → kind_in (node_kind row) ≡ kind_of f.at
    kind_of_row row f = ap kind_in f.kind ∙ kind_told (kind_of f.at)

    module _ (p : Path) (is_path : IsPath p) (no_text : (t : Option (List ℕ)) → IsContent (kind_of p) t → t ≡ None) where
      -- it has no text, and the number of its row
      textless : (row : Row) → row_at (rows db book) (path_text p) ≡ Some row → resource_of entries row ≡ properties_resource (kind_of p) (number_in (node_number row)) (properties_of entries row)
      textless row found =
          let f = row_of_path db book each p is_path row found in
          as_properties row (kind_of p) (number_in (node_number row)) (kind_of_row row f.0 ∙ ap kind_of f.1) (no_text (text_in (node_text row)) (subst (λ q. IsContent (kind_of q) (text_in (node_text row))) f.1 f.0.text)) refl

      module _ (no_number : (n : ℕ) → IsChangeNumber (kind_of p) n → n ≡ 0) where
        bare : (row : Row) → row_at (rows db book) (path_text p) ≡ Some row → resource_of entries row ≡ properties_resource (kind_of p) 0 (properties_of entries row)
        bare row found =
            let f = row_of_path db book each p is_path row found in
            textless row found ∙ ap (λ n. properties_resource (kind_of p) n (properties_of entries row)) (no_number (number_in (node_number row)) (subst (λ q. IsChangeNumber (kind_of q) (number_in (node_number row))) f.1 f.0.number))

        -- one that is mapped
        mapped : (r : Option Row) → row_at (rows db book) (path_text p) ≡ r → option_map (resource_of entries) r ≡ option_map (properties_resource (kind_of p) 0) (option_map (properties_of entries) r)
        mapped None at = refl
        mapped (Some row) at = ap Some (bare row at)

        -- the root or a home, which is there
        always : first_shown_at (nodes db book) (path_text p) ≢ None → resource_in (rows db book) (path_text p) ≡ Some (properties_resource (kind_of p) 0 (home_at (rows db book) each (path_text p)))
        always there = of_row (row_at (rows db book) (path_text p)) refl
          where
            of_row : (r : Option Row) → row_at (rows db book) (path_text p) ≡ r
                → option_map (resource_of entries) r ≡ Some (properties_resource (kind_of p) 0 (unwrap_or (option_map (properties_of entries) r) (empty_properties None)))
            of_row None at = absurd (there (shown_at (rows db book) (path_text p) ∙ ap (option_map node_shown) at))
            of_row (Some row) at = ap Some (bare row at)

    a_book : (b : List ℕ) → IsPath (path.Book b) → (r : Option Row) → row_at (rows db book) (book_path b) ≡ r
        → option_map (resource_of entries) r ≡ option_map book_resource (option_map (book_of (rows db book) each b) r)
    a_book b named None at = refl
    a_book b named (Some row) at = ap Some (textless (path.Book b) named (λ t h. h) row at)

    -- ---- cards

    module _ (placed : AllByRecursion (IsEntryRow (nodes db book)) (entries_shown (rows db book))) where
      -- a card has no protected entries
      none_protected : (b c : List ℕ) (row : Row) → Has (rows db book).nodes row → (f : IsNodeRow (nodes db book) (node_shown row)) → f.at ≡ path.Card b c → list_in entries (rowid row) true ≡ []
      none_protected b c row there f at =
          ap (λ l. map entry_of (sort_by by_place l)) (none_passes (is_entry (rowid row) true) entries (all_from_has _ entries (λ x in_entries. false_from_ne_true (is_entry (rowid row) true x) (outside x in_entries))))
        where
          of_card : is_of_kind 5 (node_shown row) ≡ true
          of_card = ap (λ v. nat_eq (number_in v) 5) f.kind ∙ ap (λ p. nat_eq (kind_code (kind_of p)) 5) at

          outside : (x : Row) → Has entries x → is_entry (rowid row) true x ≡ true → ⊥
          outside x in_entries passes =
              let both = and_parts (has ace_node_place (rowid row) x) (has ace_protected_place (flag true) x) passes in
              let g : IsEntryRow (nodes db book) (entry_shown x) = all_has _ entries x (all_mapped entry_shown (IsEntryRow (nodes db book)) entries placed) in_entries in
              let node = node_of_is (rows db book) (ace_node x) g.node g.there in
              let one : node.0 ≡ row = same_node ace_node_place node.0 row node.1 there x node.3 both.0 in
              let own : flag_in (ace_protected x) ≡ false = g.placed (ap (is_of_kind 5) (node.2 ∙ ap node_shown one) ∙ of_card) in
              let is : ace_protected x ≡ Int (pos 0) = g.spelled.protected ∙ ap flag own in
              true≢false (sym both.1 ∙ has_int 2 x (pos 0) (pos 1) is)

      -- the row of a card gives the card, with its number among the last changes
      of_card_row : (b c : List ℕ) → IsPath (path.Card b c) → (row : Row) → row_at (rows db book) (card_path b c) ≡ Some row → (id : Value)
          → resource_of entries row ≡ card_resource (unwrap_or (get (last_in (rows db book) each b id) c) 0) (card_of entries row)
      of_card_row b c named row found id =
          let f = row_of_path db book each (path.Card b c) named row found in
          let content = subst (λ q. IsContent (kind_of q) (text_in (node_text row))) f.1 f.0.text in
          let text : text_in (node_text row) ≡ Some (unwrap_or (text_in (node_text row)) []) = content.1 ∙ ap (λ t. Some (unwrap_or t [])) (sym content.1) in
          let of_kind : kind_in (node_kind row) ≡ kind.Card = kind_of_row row f.0 ∙ ap kind_of f.1 in
          let last : get (last_in (rows db book) each b id) c ≡ Some (number_in (node_number row)) =
          map_over_has (nodes db book) (cards b) (λ name r. number_in (node_number r)) (rows db book).nodes each (names_gone (rows db book).gone id) c named
          ∙ ap (λ r. option_or (option_map (λ x. number_in (node_number x)) r) (get (names_gone (rows db book).gone id) c)) found in
          let protected = none_protected b c row (found_has (is_at (card_path b c)) (rows db book).nodes row found).0 f.0 f.1 in
          let number : number_in (node_number row) ≡ unwrap_or (get (last_in (rows db book) each b id) c) 0 = sym (ap (λ r. unwrap_or r 0) last) in
          λ i. record (resource_of entries row) { kind = of_kind i; text = text i; number = number i; protected = protected i }

      pub cards_have : (b c : List ℕ) → IsPath (path.Card b c) → get (cards_in (rows db book) each b) c ≡ option_map (card_of entries) (row_at (rows db book) (card_path b c))
      cards_have b c named = map_has (nodes db book) (cards b) (λ name. card_of entries) (rows db book).nodes each c named

      a_card : (b c : List ℕ) → IsPath (path.Card b c) → (r : Option Row) → row_at (rows db book) (card_path b c) ≡ r → (s : Option Row) → row_at (rows db book) (book_path b) ≡ s
          → option_map (resource_of entries) r ≡ option_and_then (λ (k : Book). card_in k c) (option_map (book_of (rows db book) each b) s)
      a_card b c named None at None above = refl
      a_card b c named None at (Some at_book) above =
          sym (ap (option_map (card_resource (number_of (book_of (rows db book) each b at_book) c))) (cards_have b c named ∙ ap (option_map (card_of entries)) at))
      a_card b c named (Some row) at None above =
          let f = row_of_path db book each (path.Card b c) named row at in
          let below : IsBelow (nodes db book) (Some (path.Book b)) (node_parent row) = subst (λ q. IsBelow (nodes db book) (parent_of q) (node_parent row)) f.1 f.0.parent in
          some_apart (sym (numbered_at db book (book_path b) below.0 below.1).1 ∙ above)
      a_card b c named (Some row) at (Some at_book) above =
          ap Some (of_card_row b c named row at (rowid at_book))
          ∙ sym (ap (option_map (card_resource (number_of (book_of (rows db book) each b at_book) c))) (cards_have b c named ∙ ap (option_map (card_of entries)) at))

      pub books_have : (b : List ℕ) → IsPath (path.Book b) → get (office_of (rows db book) each set.empty 0).books b ≡ option_map (book_of (rows db book) each b) (row_at (rows db book) (book_path b))
      books_have b named = map_has (nodes db book) books (book_of (rows db book) each) (rows db book).nodes each b named

      -- at each path there is the resource of the row
      pub resources : HasHomes (nodes db book) → (pairs : Memberships) (epoch : ℕ) (p : Path) → IsPath p → resource_in (rows db book) (path_text p) ≡ resource_at (office_of (rows db book) each pairs epoch) p
      resources homes pairs epoch path.Root named = always path.Root tt (λ t h. h) (λ n h. h) homes.root
      resources homes pairs epoch path.People named = always path.People tt (λ t h. h) (λ n h. h) homes.people
      resources homes pairs epoch path.Groups named = always path.Groups tt (λ t h. h) (λ n h. h) homes.groups
      resources homes pairs epoch path.Books named = always path.Books tt (λ t h. h) (λ n h. h) homes.books
      resources homes pairs epoch (path.Person n) named =
          mapped (path.Person n) named (λ t h. h) (λ k h. h) (row_at (rows db book) (path_text (path.Person n))) refl
          ∙ sym (ap (option_map (properties_resource kind.Person 0)) (map_has (nodes db book) persons (λ name. properties_of entries) (rows db book).nodes each n named))
      resources homes pairs epoch (path.Group n) named =
          mapped (path.Group n) named (λ t h. h) (λ k h. h) (row_at (rows db book) (path_text (path.Group n))) refl
          ∙ sym (ap (option_map (properties_resource kind.Group 0)) (map_has (nodes db book) groups (λ name. properties_of entries) (rows db book).nodes each n named))
      resources homes pairs epoch (path.Book b) named =
          a_book b named (row_at (rows db book) (book_path b)) refl ∙ sym (ap (option_map book_resource) (books_have b named))
      resources homes pairs epoch (path.Card b c) named =
          a_card b c named (row_at (rows db book) (card_path b c)) refl (row_at (rows db book) (book_path b)) refl
          ∙ sym (ap (option_and_then (λ (k : Book). card_in k c)) (books_have b named.0))
