-- The changes of a sound Office's rows: the names that have keys, each in its book.
use Rattle.book_tables_opening.proofs.Common.{◌≡◌, ◌⊎◌, inl, inr, ℕ, ℤ, pos, true, ◌&&◌, List, [], ◌∷◌, filter, Some, option_map, refl, sym, ap, subst, ◌∙◌, Int, id_in, Database, Row, rowid, Has, all_has, has_filtered, Office, book_path, IsName, same_itself, one_text, removed_at, IsSound, gone_book, gone_name, gone_number, node_number, node_parent, number_in, Rows, rows_of, IsBook, is_gone, gone_shown, row_at, resource_of, removed_from, IsRemoved, Gives, nodes_of, its_resource, has_text, number_of_row, has_mapped, is_of_kind, Key, card_changes, gone_change, gone_changes, node_shown, whole_nodes}
use Rattle.book_office_values.specs.declared.paths.Path.TheVariants as path
use Rattle.book_office.specs.ResourceTree.{HasNumber}
use Rattle.book_office.proofs.StandingResources.{numbers_tell_names}
use Rattle.book_tables.proofs.ChildRows.{found_once}
use Rattle.book_tables.proofs.GoneOnce.{gone_once}
use Rattle.book_tables.proofs.LeftRows.{book_name}
use Rattle.book_tables.proofs.RowFacts.{numbers_apart}
use Rattle.book_tables_opening.specs.Opening.{card_change}
use Rattle.book_tables_opening.proofs.GivenBooks.{IsCardRow, card_row}
use Rattle.book_tables_opening.proofs.GivenLists.{has_number}

abbrev pub gone_row_shown : Row → Row
gone_row_shown row = gone_book row ∷ gone_name row ∷ gone_number row ∷ []

same_number : (a b : ℕ) → pos a ≡ pos b → a ≡ b
same_number a b e = cc

module _ (db : Database) (book : IsBook db) (o : Office) (gives : Gives (rows_of db.trees) o) (sound : IsSound o) where
  abbrev rows : Rows
  rows = rows_of db.trees

  -- a book's number and the change number of one of its names
  pub record IsChange (key : Key) : Type 0 where
    pub b : List ℕ
    pub name : List ℕ
    pub named : IsName b
    pub book_row : Row
    pub found : row_at rows (book_path b) ≡ Some book_row
    pub id : ℤ
    pub id_is : rowid book_row ≡ Int id
    pub number : ℕ
    pub key_is : key ≡ (id, pos number)
    pub has : HasNumber o b name number

  -- ---- cards

  pub card_numbered : (x : Row) → Has rows.nodes x → (card : IsCardRow db book o gives sound x) → HasNumber o card.b card.c (number_in (node_number x))
  card_numbered x there card = inl (resource_of rows.entries x, its_resource rows o gives (nodes_of db book) sound (path.Card card.b card.c) card.at.named x (path.Card card.b card.c) there card.at, refl)

  unfoldable pub card_changed : (k : Key) (x : Row) → Has rows.nodes x → IsCardRow db book o gives sound x → k ≡ card_change (node_shown x) → IsChange k
  card_changed k x there card is =
      let first : id_in (node_parent x) ≡ card.id = ap id_in card.under in
      let second : id_in (node_number x) ≡ pos (number_in (node_number x)) = ap id_in card.at.number in
      record {
        b = card.b;
        name = card.c;
        named = card.at.named.0;
        book_row = card.book_row;
        found = card.found;
        id = card.id;
        id_is = card.id_is;
        number = number_in (node_number x);
        key_is = is ∙ (λ i. (first i, second i));
        has = card_numbered x there card;
      }

  -- ---- removed names

  unfoldable pub removed_is : (x : Row) → Has rows.gone x → IsRemoved rows x
  removed_is x there = all_has (IsRemoved rows) rows.gone x gives.removed there

  pub is_its_name : (x : Row) (in_gone : Has rows.gone x) → is_gone (rowid (removed_is x in_gone).there.0) (removed_is x in_gone).name x ≡ true
  is_its_name x in_gone =
      let it = removed_is x in_gone in
      let number = number_of_row rows gives.nodes (nodes_of db book).shaped (book_path it.book) it.there.0 it.there.1 in
      let first = has_number 1 x (rowid it.there.0) number.0 (it.there.2 ∙ number.1) number.1 in
      let second = has_text 2 x it.name it.name it.spelled ∙ same_itself it.name in
      λ i. first i && second i

  pub removed_there : (x : Row) (in_gone : Has rows.gone x) → removed_at o (removed_is x in_gone).book (removed_is x in_gone).name ≡ Some (number_in (gone_number x))
  removed_there x in_gone =
      let it = removed_is x in_gone in
      let there = found_once (is_gone (rowid it.there.0) it.name) rows.gone x (gone_once db book (rowid it.there.0) it.name) in_gone (is_its_name x in_gone) in
      sym (gives.gone it.book it.name it.named) ∙ ap (removed_from rows.gone it.name) it.there.1 ∙ ap (option_map (λ row. number_in (gone_number row))) there

  unfoldable pub gone_changed : (k : Key) (x : Row) → Has rows.gone x → k ≡ gone_change (gone_row_shown x) → IsChange k
  gone_changed k x in_gone is =
      let it = removed_is x in_gone in
      let number = number_of_row rows gives.nodes (nodes_of db book).shaped (book_path it.book) it.there.0 it.there.1 in
      let first : id_in (gone_book x) ≡ number.0 = ap id_in (it.there.2 ∙ number.1) in
      let second : id_in (gone_number x) ≡ pos (number_in (gone_number x)) = ap id_in it.number in
      record {
        b = it.book;
        name = it.name;
        named = it.named;
        book_row = it.there.0;
        found = it.there.1;
        id = number.0;
        id_is = number.1;
        number = number_in (gone_number x);
        key_is = is ∙ (λ i. (first i, second i));
        has = inr (removed_there x in_gone);
      }

  -- what has a card's key, or that of a removed name
  unfoldable pub changed_card : (z : Row) → Has (filter (is_of_kind 5) (whole_nodes rows)) z → (x : Row) × Has rows.nodes x × (z ≡ node_shown x) × IsCardRow db book o gives sound x
  changed_card z picked =
      let its = has_filtered (is_of_kind 5) (whole_nodes rows) z picked in
      let x = has_mapped node_shown rows.nodes z its.0 in
      (x.0, x.1, x.2, card_row db book o gives sound x.0 x.1 (ap (is_of_kind 5) (sym x.2) ∙ its.1))

  pub each_change : (key : Key) → Has (card_changes (whole_nodes rows)) key ⊎ Has (gone_changes (gone_shown rows)) key → IsChange key
  each_change key (inl card) =
      let z = has_mapped card_change (filter (is_of_kind 5) (whole_nodes rows)) key card in
      let x = changed_card z.0 z.1 in
      card_changed key x.0 x.1 x.3 (z.2 ∙ ap card_change x.2)
  each_change key (inr gone) =
      let z = has_mapped gone_change (gone_shown rows) key gone in
      let x = has_mapped gone_row_shown rows.gone z.0 z.1 in
      gone_changed key x.0 x.1 (z.2 ∙ ap gone_change x.2)

  -- changes of one key are of one name in one book
  pub record IsOneName (key : Key) (a c : IsChange key) : Type 0 where
    pub rows_are : rowid a.book_row ≡ rowid c.book_row
    pub books : a.b ≡ c.b
    pub names : a.name ≡ c.name

  pub one_name : (key : Key) (a c : IsChange key) → IsOneName key a c
  one_name key a c =
      let both = sym a.key_is ∙ c.key_is in
      let number : a.number ≡ c.number = same_number a.number c.number (ap (λ (k : Key). k.1) both) in
      let same : rowid a.book_row ≡ rowid c.book_row = a.id_is ∙ ap (λ (k : Key). Int k.0) both ∙ sym c.id_is in
      let texts = numbers_apart rows gives.nodes (nodes_of db book).shaped (book_path a.b) (book_path c.b) a.book_row c.book_row a.found c.found same in
      let books : a.b ≡ c.b = book_name (one_text (path.Book a.b) (path.Book c.b) a.named c.named texts) in
      let its : HasNumber o a.b c.name a.number = subst (λ n. HasNumber o a.b c.name n) (sym number) (subst (λ b. HasNumber o b c.name c.number) (sym books) c.has) in
      record { rows_are = same; books = books; names = numbers_tell_names o sound a.b a.name c.name a.number a.has its }
