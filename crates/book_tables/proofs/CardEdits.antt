-- PUT, COPY and the label of a card: the rows give the edited Office.
use Rattle.book_tables.proofs.Common.{◌≡◌, ℕ, ◌+◌, List, [], find, Option, Some, None, option_map, option_and_then, is_some, unwrap_or, refl, sym, ap, subst, ◌∙◌, get, insert, same_Some, Int, id_in, Row, rowid, IsShaped, IsName, Book, StoredCard, Office, book_path, card_path, some_apart, by_option, where_some, put_here, put_elsewhere, SetLabel, with_book, apply, Resource, card_at, book_resource, card_resource, card_in, number_of, unless_mapped, IsSound, IsSoundBook, gone_number, node_label, node_number, Rows, number_in, text_in, row_at, resource_of, removed_from, Gives, delete_where}
use Rattle.sqlite_trees.specs.declared.store.Shape.TheVariants.{Table as TableShape}
use Rattle.book_office_values.specs.declared.paths.Path.TheVariants as path
use Rattle.book_office.specs.declared.edits.Edit.TheVariants.{PutCard, CopyCard}
use Rattle.book_office.specs.Edits.{card_put, card_copied, copy_from, put_card, put_copy, label_card, card_labelled, with_text}
use Rattle.book_office.specs.Moving.{relabelled}
use Rattle.book_tables_rows.specs.Columns.{node_text}
use Rattle.book_tables_rows.specs.Nodes.{PutsCard, PutsCopy, LabelsCard, putting_card, copying_card, labelling_card}
use Rattle.book_tables_rows.specs.Writes as writes
use Rattle.book_tables.proofs.LeftRows.{none_deleted}
use Rattle.book_tables.proofs.Acting.{Given, GivesEdited}
use Rattle.book_tables.proofs.KeptReach.{card_label_keeps, copy_keeps, put_keeps, still_holds}
use Rattle.book_tables.proofs.TouchedOffices.{edited_book, touched_office, named_card}
use Rattle.book_tables.proofs.WrittenCards as written

pub unmapped : {A B : Type 0} (f : A → B) (r : Option A) → option_map f r ≡ None → r ≡ None
unmapped f None e = refl
unmapped f (Some a) e = some_apart e

-- what is known of a book and of a card of it, before an edit that touches the card's name
pub record AtBook (rows : Rows) (o : Office) (b : List ℕ) (book_row : Row) (book : Book) : Type 0 where
  pub there : get o.books b ≡ Some book
  pub named : IsName b
  pub number : number_in (node_number book_row) + 1 ≡ book.changes.number + 1

pub at_book : (rows : Rows) (o : Office) → Gives rows o → IsSound o → (b : List ℕ) (book_row : Row) → row_at rows (book_path b) ≡ Some book_row
    → (book : Book) → get o.books b ≡ Some book → AtBook rows o b book_row book
at_book rows o gives sound b book_row found book there =
    let named = (sound.books b book there).0 in
    let is : resource_of rows.entries book_row ≡ book_resource book =
    same_Some _ _ (sym (ap (option_map (resource_of rows.entries)) found) ∙ gives.resources (path.Book b) named ∙ ap (option_map book_resource) there) in
    record { there = there; named = named; number = ap (λ (r : Resource). r.number + 1) is }

pub card_told : (rows : Rows) (o : Office) → Gives rows o → (b c : List ℕ) → IsName b → IsName c → (book : Book) → get o.books b ≡ Some book
    → option_map (resource_of rows.entries) (row_at rows (card_path b c)) ≡ option_map (card_resource (number_of book c)) (get book.cards c)
card_told rows o gives b c named named_c book there = gives.resources (path.Card b c) (named, named_c) ∙ ap (option_and_then (λ (k : Book). card_in k c)) there

-- the name of a card that is there is no removed one
pub not_gone : (rows : Rows) (o : Office) → Gives rows o → (b c : List ℕ) → IsName b → (book_row : Row) → row_at rows (book_path b) ≡ Some book_row
    → (book : Book) → get o.books b ≡ Some book → (card : StoredCard) → get book.cards c ≡ Some card → find (writes.is_gone (rowid book_row) c) rows.gone ≡ None
not_gone rows o gives b c named book_row found book there card its =
    unmapped (λ row. number_in (gone_number row)) (find (writes.is_gone (rowid book_row) c) rows.gone)
    (sym (ap (removed_from rows.gone c) found) ∙ gives.gone b c named
    ∙ ap (option_and_then (λ (k : Book). unless_mapped (get k.cards c) (get k.changes.last c))) there ∙ ap (λ r. unless_mapped r (get book.changes.last c)) its)

-- so no removed name is deleted where the card's is
pub none_gone : (rows : Rows) (o : Office) → Gives rows o → IsShaped TableShape rows.nodes → (b c : List ℕ) → IsName b → IsName c → (book_row : Row) → row_at rows (book_path b) ≡ Some book_row
    → (book : Book) → get o.books b ≡ Some book → (card : StoredCard) → get book.cards c ≡ Some card → delete_where (writes.is_gone (Int (id_in (rowid book_row))) c) rows.gone ≡ rows.gone
none_gone rows o gives shaped b c named named_c book_row found book there card its =
    none_deleted (writes.is_gone (Int (id_in (rowid book_row))) c) rows.gone
    (ap (λ v. find (writes.is_gone v c) rows.gone) (sym (written.book_id_is rows o gives shaped b c book there named named_c book_row found))
    ∙ not_gone rows o gives b c named book_row found book there card its)

-- ---- PUT

module _ (b c : List ℕ) (owner : Option (List ℕ)) (text : List ℕ) where
  placed_put : (o : Office) (book : Book) → get o.books b ≡ Some book → (card : Option StoredCard) → get book.cards c ≡ card
      → touched_office o b c book (insert book.cards c (card_put card owner text)) ≡ apply o (PutCard b c owner text)
  placed_put o book there card is =
      ap (λ k. touched_office o b c book (insert book.cards c (card_put k owner text))) (sym is) ∙ sym (edited_book (put_card c owner text) o b book there)

  put_gives : (rows after : Rows) (o : Office) → Given rows o (PutCard b c owner text) → PutsCard rows after (book_path b) (card_path b c) c owner text → Gives after (apply o (PutCard b c owner text))
  put_gives rows after o given made =
      where_some (get o.books b) given.fits.possible (λ book there.
      let at = at_book rows o given.gives given.sound b made.book made.there book there in
      let sound = subst IsSound (sym (placed_put o book there (get book.cards c) refl)) given.fits.sound in
      let new_card = card_put (get book.cards c) owner text in
      let named_c = named_card o b c book there (insert book.cards c new_card) (Some new_card) (put_here book.cards c new_card) (put_elsewhere book.cards c new_card) sound in
      let told = card_told rows o given.gives b c at.named named_c book there in
      by_option (row_at rows (card_path b c))
      (λ none.
      let no_card = unmapped (card_resource (number_of book c)) (get book.cards c) (sym told ∙ ap (option_map (resource_of rows.entries)) none) in
      let rows_are = made.rows_are ∙ (λ i. writes.put_card_rows (Int (id_in (rowid made.book))) (is_some (none i)) (book_path b) (card_path b c) c owner text (at.number i) rows) in
      let gives = written.gives_new rows o given.gives given.nodes.shaped b c book there at.named named_c made.book made.there none owner [] text in
      subst (λ r. Gives r (apply o (PutCard b c owner text))) (sym rows_are) (subst (Gives _) (placed_put o book there None no_card) gives))
      (λ old found.
      by_option (get book.cards c)
      (λ no_card. some_apart (sym (ap (option_map (resource_of rows.entries)) found) ∙ told ∙ ap (option_map (card_resource (number_of book c))) no_card))
      (λ card its.
      let n = book.changes.number + 1 in
      let alike : written.AreAlike n (writes.row_with_text text n) (with_text text) = record {
        columns = record { id = λ r. refl; path = λ r. refl; parent = λ r. refl; kind = λ r. refl; number = λ r. refl };
        resource = λ entries r k (card : StoredCard) is. ap (λ (r : Resource). record r { text = Some text; number = n }) is;
      } in
      let gives = written.gives_old rows o given.gives given.nodes.shaped b c book there at.named named_c made.book made.there old found card its (writes.row_with_text text n) (with_text text) alike in
      let stays = none_gone rows o given.gives given.nodes.shaped b c at.named named_c made.book made.there book there card its in
      let rows_are = made.rows_are
      ∙ (λ i. writes.put_card_rows (Int (id_in (rowid made.book))) (is_some (found i)) (book_path b) (card_path b c) c owner text (at.number i) (record rows { gone = sym stays i })) in
      subst (λ r. Gives r (apply o (PutCard b c owner text))) (sym rows_are) (subst (Gives _) (placed_put o book there (Some card) its) gives))))

  pub puts_card : GivesEdited (PutCard b c owner text) (putting_card (book_path b) (card_path b c) c owner text)
  puts_card = record {
    fits = λ rows o given. tt;
    gives = put_gives;
    reach = λ rows after o given made holds. still_holds rows after o.pairs o.pairs (put_keeps rows after (book_path b) (card_path b c) c owner text made) refl holds;
  }

-- ---- COPY

module _ (from_book from_card b c : List ℕ) (owner : Option (List ℕ)) where
  abbrev source_path : List ℕ
  source_path = card_path from_book from_card

  placed_copy : (o : Office) (book : Book) → get o.books b ≡ Some book → (source : StoredCard) → card_at o from_book from_card ≡ Some source → (card : Option StoredCard) → get book.cards c ≡ card
      → touched_office o b c book (insert book.cards c (card_copied card owner source.label source.text)) ≡ apply o (CopyCard from_book from_card b c owner)
  placed_copy o book there source source_is card is =
      ap (λ k. touched_office o b c book (insert book.cards c (card_copied k owner source.label source.text))) (sym is)
      ∙ sym (edited_book (put_copy c owner source.label source.text) o b book there)
      ∙ ap (λ s. with_book (copy_from s c owner) o b) (sym source_is)

  -- the row of the source tells the card
  source_told : (rows : Rows) (o : Office) → Gives rows o → IsSound o → (source : StoredCard) → card_at o from_book from_card ≡ Some source → (row : Row) → row_at rows source_path ≡ Some row
      → (unwrap_or (text_in (node_label row)) [] ≡ source.label) × (text_in (node_text row) ≡ Some source.text)
  source_told rows o gives sound source source_is row found =
      by_option (get o.books from_book)
      (λ none. some_apart (sym source_is ∙ ap (option_and_then (λ (k : Book). get k.cards from_card)) none))
      (λ book there.
      let named = (sound.books from_book book there).0 in
      let its : get book.cards from_card ≡ Some source = sym (ap (option_and_then (λ (k : Book). get k.cards from_card)) there) ∙ source_is in
      let named_c = name_of_card book ((sound.books from_book book there).1) source its in
      let is : resource_of rows.entries row ≡ card_resource (number_of book from_card) source =
      same_Some _ _ (sym (ap (option_map (resource_of rows.entries)) found) ∙ card_told rows o gives from_book from_card named named_c book there ∙ ap (option_map (card_resource (number_of book from_card))) its) in
      (ap (λ (r : Resource). r.label) is, ap (λ (r : Resource). r.text) is))
    where
      name_of_card : (book : Book) → IsSoundBook o book → (card : StoredCard) → get book.cards from_card ≡ Some card → IsName from_card
      name_of_card book sound_book card its = where_some (get book.changes.last from_card) (sound_book.changed from_card card its) (λ n is. sound_book.names from_card n is)

  copy_gives : (rows after : Rows) (o : Office) → Given rows o (CopyCard from_book from_card b c owner) → PutsCopy rows after source_path (book_path b) (card_path b c) c owner
      → Gives after (apply o (CopyCard from_book from_card b c owner))
  copy_gives rows after o given made =
      where_some (card_at o from_book from_card) given.fits.possible.0 (λ source source_is.
      where_some (get o.books b) given.fits.possible.1 (λ book there.
      let o' = apply o (CopyCard from_book from_card b c owner) in
      let at = at_book rows o given.gives given.sound b made.book made.there book there in
      let tells = source_told rows o given.gives given.sound source source_is made.source made.source_there in
      let label : unwrap_or (text_in (node_label made.source)) [] ≡ source.label = tells.0 in
      let text : made.text ≡ source.text = same_Some _ _ (sym made.text_is ∙ tells.1) in
      let sound = subst IsSound (sym (placed_copy o book there source source_is (get book.cards c) refl)) given.fits.sound in
      let new_card = card_copied (get book.cards c) owner source.label source.text in
      let named_c = named_card o b c book there (insert book.cards c new_card) (Some new_card) (put_here book.cards c new_card) (put_elsewhere book.cards c new_card) sound in
      let told = card_told rows o given.gives b c at.named named_c book there in
      by_option (row_at rows (card_path b c))
      (λ none.
      let no_card = unmapped (card_resource (number_of book c)) (get book.cards c) (sym told ∙ ap (option_map (resource_of rows.entries)) none) in
      let rows_are = made.rows_are ∙ (λ i. writes.put_copy_rows (Int (id_in (rowid made.book))) (is_some (none i)) (book_path b) (card_path b c) c owner (label i) (text i) (at.number i) rows) in
      let gives = written.gives_new rows o given.gives given.nodes.shaped b c book there at.named named_c made.book made.there none owner source.label source.text in
      subst (λ r. Gives r o') (sym rows_are) (subst (Gives _) (placed_copy o book there source source_is None no_card) gives))
      (λ old found.
      by_option (get book.cards c)
      (λ no_card. some_apart (sym (ap (option_map (resource_of rows.entries)) found) ∙ told ∙ ap (option_map (card_resource (number_of book c))) no_card))
      (λ card its.
      let n = book.changes.number + 1 in
      let alike : written.AreAlike n (writes.with_copy source.label source.text n) (relabelled source.label source.text) = record {
        columns = record { id = λ r. refl; path = λ r. refl; parent = λ r. refl; kind = λ r. refl; number = λ r. refl };
        resource = λ entries r k (card : StoredCard) is. ap (λ (r : Resource). record r { label = source.label; text = Some source.text; number = n }) is;
      } in
      let gives = written.gives_old rows o given.gives given.nodes.shaped b c book there at.named named_c made.book made.there old found card its (writes.with_copy source.label source.text n) (relabelled source.label source.text) alike in
      let stays = none_gone rows o given.gives given.nodes.shaped b c at.named named_c made.book made.there book there card its in
      let rows_are = made.rows_are
      ∙ (λ i. writes.put_copy_rows (Int (id_in (rowid made.book))) (is_some (found i)) (book_path b) (card_path b c) c owner (label i) (text i) (at.number i) (record rows { gone = sym stays i })) in
      subst (λ r. Gives r o') (sym rows_are) (subst (Gives _) (placed_copy o book there source source_is (Some card) its) gives)))))

  pub copies_card : GivesEdited (CopyCard from_book from_card b c owner) (copying_card source_path (book_path b) (card_path b c) c owner)
  copies_card = record {
    fits = λ rows o given. tt;
    gives = copy_gives;
    reach = λ rows after o given made holds. still_holds rows after o.pairs o.pairs (copy_keeps rows after source_path (book_path b) (card_path b c) c owner made) refl holds;
  }

-- ---- the label of a card

module _ (b c label : List ℕ) where
  placed_label : (o : Office) (book : Book) → get o.books b ≡ Some book → (card : StoredCard) → get book.cards c ≡ Some card
      → touched_office o b c book (insert book.cards c (card_labelled label card)) ≡ apply o (SetLabel (path.Card b c) label)
  placed_label o book there card is =
      (λ i. record o { books = insert o.books b (label_card c label (sym is i) book) })
      ∙ sym (edited_book (λ (k : Book). label_card c label (get k.cards c) k) o b book there)

  label_gives : (rows after : Rows) (o : Office) → Given rows o (SetLabel (path.Card b c) label) → LabelsCard rows after (book_path b) (card_path b c) label → Gives after (apply o (SetLabel (path.Card b c) label))
  label_gives rows after o given made =
      by_option (get o.books b)
      (λ no_book. absurd (given.fits.possible (ap (option_and_then (λ (k : Book). card_in k c)) no_book)))
      (λ book there.
      by_option (get book.cards c)
      (λ no_card. absurd (given.fits.possible (ap (option_and_then (λ (k : Book). card_in k c)) there ∙ ap (option_map (card_resource (number_of book c))) no_card)))
      (λ card its.
      let o' = apply o (SetLabel (path.Card b c) label) in
      let n = book.changes.number + 1 in
      let at = at_book rows o given.gives given.sound b made.book made.there book there in
      let placed = placed_label o book there card its in
      let sound = subst IsSound (sym placed) given.fits.sound in
      let new_card = card_labelled label card in
      let named_c = named_card o b c book there (insert book.cards c new_card) (Some new_card) (put_here book.cards c new_card) (put_elsewhere book.cards c new_card) sound in
      let told = card_told rows o given.gives b c at.named named_c book there in
      by_option (row_at rows (card_path b c))
      (λ none. some_apart (sym (ap (option_map (card_resource (number_of book c))) its) ∙ sym told ∙ ap (option_map (resource_of rows.entries)) none))
      (λ old found.
      let alike : written.AreAlike n (writes.with_label label n) (card_labelled label) = record {
        columns = record { id = λ r. refl; path = λ r. refl; parent = λ r. refl; kind = λ r. refl; number = λ r. refl };
        resource = λ entries r k (card : StoredCard) is. ap (λ (r : Resource). record r { label = label; number = n }) is;
      } in
      let gives = written.gives_old rows o given.gives given.nodes.shaped b c book there at.named named_c made.book made.there old found card its (writes.with_label label n) (card_labelled label) alike in
      let stays = none_gone rows o given.gives given.nodes.shaped b c at.named named_c made.book made.there book there card its in
      let rows_are = made.rows_are ∙ (λ i. writes.label_card_rows (book_path b) (card_path b c) label (at.number i) (record rows { gone = sym stays i })) in
      subst (λ r. Gives r o') (sym rows_are) (subst (Gives _) placed gives))))

  pub labels_card : GivesEdited (SetLabel (path.Card b c) label) (labelling_card (book_path b) (card_path b c) label)
  labels_card = record {
    fits = λ rows o given. tt;
    gives = label_gives;
    reach = λ rows after o given made holds. still_holds rows after o.pairs o.pairs (card_label_keeps rows after (book_path b) (card_path b c) label made) refl holds;
  }
