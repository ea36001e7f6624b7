-- DELETE of a card: no row refers to it but its entries, and the rows without it give the Office without it.
use Rattle.book_tables.proofs.Common.{◌≡◌, ◌≢◌, ℕ, ◌+◌, Bool, true, false, cond, List, find, map, Option, Some, None, option_map, option_and_then, refl, sym, ap, subst, ◌∙◌, true≢false, and_parts, false_from_ne_true, get, remove, AllByRecursion, same_Some, Value, Int, next_rowid, id_in, Row, rowid, IsShaped, all_weaker, all-append, Has, all_has, delete_where, sort_by, IsName, Book, StoredCard, Office, Path, IsPath, path_text, parent_of, book_path, card_path, one_text, same_itself, by_names, some_apart, by_option, where_some, removed_here, removed_elsewhere, apply, card_at, IsSoundBook, ace_node_place, gone_book_place, node_parent, rowid_place, Rows, has, is_at, is_entry, by_place, with_number, PassesOnce, key, key_is, in_left, int_itself, row_at, list_in, entry_of, IsParent, IsNode, IsEntry, IsRemoved, Gives}
use Rattle.sqlite_trees.specs.declared.store.Shape.TheVariants.{Table as TableShape}
use Rattle.book_office_values.specs.declared.paths.Path.TheVariants as path
use Rattle.book_office.specs.declared.edits.Edit.TheVariants.{RemoveCard}
use Rattle.book_office.specs.Edits.{remove_card}
use Rattle.book_tables_rows.specs.Columns.{node_parent_place}
use Rattle.book_tables_rows.specs.Nodes.{RemovesCard, FitCardRemoval, removing_card}
use Rattle.book_tables_rows.specs.Writes as writes
use Rattle.book_tables_rows.specs.Writes.{delete_entries, AreFree}
use Rattle.book_tables.proofs.Acting.{Given, GivesEdited}
use Rattle.book_tables.proofs.KeptReach.{removal_keeps, still_holds}
use Rattle.book_tables.proofs.Looking.{found_has, find-delete_where, find-deleted, has_int, same_ints}
use Rattle.book_tables.proofs.LeftRows.{stays_in, filter-delete_where, one_found, has_null, book_or_card}
use Rattle.book_tables.proofs.RowFacts.{apart, same_rowid, has_updated, all_updated, all_from_has, is_at_found, number_of_row, numbers_apart}
use Rattle.book_tables.proofs.TouchedOffices.{edited_book, touched_office}
use Rattle.book_tables.proofs.TouchedRows.{AreTouched, gives_touched}
use Rattle.book_tables.proofs.WrittenCards.{node_changed, numbered_keeps, row_changed}
use Rattle.book_tables.proofs.CardEdits.{at_book, not_gone}
use Rattle.book_tables.proofs.GoneNames as gone

abbrev pub IsNoCard : Path → Type 0
IsNoCard p = (a d : List ℕ) → p ≢ path.Card a d

-- the path above another is no card's
pub by_parent : (q : Path) → IsPath q → (P : Option Path → Type 0) → P None → ((above : Path) → IsPath above → IsNoCard above → P (Some above)) → P (parent_of q)
by_parent path.Root x P none some = none
by_parent path.People x P none some = some path.Root tt (λ a d e. cc)
by_parent path.Groups x P none some = some path.Root tt (λ a d e. cc)
by_parent path.Books x P none some = some path.Root tt (λ a d e. cc)
by_parent (path.Person n) x P none some = some path.People tt (λ a d e. cc)
by_parent (path.Group n) x P none some = some path.Groups tt (λ a d e. cc)
by_parent (path.Book n) x P none some = some path.Books tt (λ a d e. cc)
by_parent (path.Card b c) x P none some = some (path.Book b) x.0 (λ a d e. cc)

-- the row at each path that is no card's is found afterwards, with its number
abbrev pub KeepsAbove : Rows → Rows → Type 0
KeepsAbove rows after = (q : Path) → IsPath q → IsNoCard q → (r : Row) → row_at rows (path_text q) ≡ Some r → (s : Row) × (row_at after (path_text q) ≡ Some s) × (rowid s ≡ rowid r)

pub parent_kept : (rows after : Rows) → KeepsAbove rows after → (v : Value) (p : Path) → IsPath p → IsParent rows v (parent_of p) → IsParent after v (parent_of p)
parent_kept rows after keeps v p is_path =
    by_parent p is_path (λ above. IsParent rows v above → IsParent after v above) (λ h. h)
    (λ above named no_card (r, found, is). let k = keeps above named no_card r found in (k.0, k.1, is ∙ sym k.2))

pub node_kept : (rows after : Rows) → KeepsAbove rows after → (row : Row) → IsNode rows row → IsNode after row
node_kept rows after keeps row (p, n) =
    (p, record { named = n.named; path = n.path; parent = parent_kept rows after keeps (node_parent row) p n.named n.parent; kind = n.kind; number = n.number })

pub gone_kept : (rows after : Rows) → KeepsAbove rows after → (row : Row) → IsRemoved rows row → IsRemoved after row
gone_kept rows after keeps row r =
    let k = keeps (path.Book r.book) r.named (λ a d e. cc) r.there.0 r.there.1 in
    record { book = r.book; named = r.named; there = (k.0, k.1, r.there.2 ∙ sym k.2); name = r.name; spelled = r.spelled; number = r.number }

-- ---- the row of a card

module _ (rows : Rows) (o : Office) (gives : Gives rows o) (shaped : IsShaped TableShape rows.nodes) (once : (t : List ℕ) → PassesOnce (is_at t) rows.nodes)
    (b c : List ℕ) (named : IsName b) (named_card : IsName c) (card_row : Row) (at_card : row_at rows (card_path b c) ≡ Some card_row) where
  abbrev cp : List ℕ
  cp = card_path b c

  abbrev pub id : Value
  id = Int (id_in (rowid card_row))

  card_there : Has rows.nodes card_row
  card_there = (found_has (is_at cp) rows.nodes card_row at_card).0

  node_number : (r : Row) → Has rows.nodes r → rowid r ≡ Int (key r)
  node_number r there = key_is r (all_has _ rows.nodes r shaped.1 there)

  pub id_is : rowid card_row ≡ id
  id_is = node_number card_row card_there

  own_row : (r : Row) → Has rows.nodes r → has rowid_place id r ≡ true → r ≡ card_row
  own_row r there own =
      let n = node_number r there in
      same_rowid rows.nodes r card_row shaped.0 there card_there (n ∙ ap Int (same_ints 0 r (key r) (key card_row) n own) ∙ sym id_is)

  pub itself : has rowid_place id card_row ≡ true
  itself = has_int 0 card_row (key card_row) (key card_row) id_is ∙ int_itself (key card_row)

  -- a row at another text is another
  pub other_row : (t : List ℕ) → t ≢ cp → (r : Row) → Has rows.nodes r → is_at t r ≡ true → has rowid_place id r ≡ false
  other_row t differs r there at = false_from_ne_true (has rowid_place id r) (λ own.
      true≢false (sym at ∙ ap (is_at t) (own_row r there own) ∙ is_at_found rows gives.nodes shaped cp t card_row at_card ∙ apart cp t (λ is. differs (sym is))))

  abbrev pub nodes_left : List Row
  nodes_left = delete_where (has rowid_place id) rows.nodes

  pub card_left : find (is_at cp) nodes_left ≡ None
  card_left = find-deleted (is_at cp) (has rowid_place id) rows.nodes (all_from_has _ rows.nodes (λ x there at.
      ap (has rowid_place id) (one_found (is_at cp) rows.nodes x card_row (once cp) at_card there at) ∙ itself))

  pub others_left : (t : List ℕ) → t ≢ cp → find (is_at t) nodes_left ≡ row_at rows t
  others_left t differs = find-delete_where (is_at t) (has rowid_place id) rows.nodes (all_from_has _ rows.nodes (λ x there at. other_row t differs x there at))

  abbrev pub entries_left : List Row
  entries_left = delete_where (has ace_node_place id) rows.entries

  -- the lists of other rows stay
  pub lists_left : (t : List ℕ) (r : Row) → row_at rows t ≡ Some r → t ≢ cp → (pr : Bool) → list_in entries_left (rowid r) pr ≡ list_in rows.entries (rowid r) pr
  lists_left t r found differs pr =
      let k_r = number_of_row rows gives.nodes shaped t r found in
      ap (λ es. map entry_of (sort_by by_place es)) (filter-delete_where (is_entry (rowid r) pr) (has ace_node_place id) rows.entries (all_from_has _ rows.entries (λ e in_entries passes.
      false_from_ne_true (has ace_node_place id e) (λ own.
      let it = all_has (IsEntry rows) rows.entries e gives.entries in_entries in
      let its = it.its ∙ node_number it.node it.there in
      let is_r = same_ints 1 e (key it.node) k_r.0 its (ap (λ v. has ace_node_place v e) (sym k_r.1) ∙ (and_parts _ _ passes).0) in
      let is_card = same_ints 1 e (key it.node) (key card_row) its own in
      differs (numbers_apart rows gives.nodes shaped t cp r card_row found at_card (k_r.1 ∙ ap Int (sym is_r ∙ is_card) ∙ sym id_is))))))

  -- a row that is left keeps its number and is there
  pub entry_left : (after : Rows) → ((x : Row) → Has nodes_left x → (y : Row) × Has after.nodes y × (rowid y ≡ rowid x)) → (e : Row) → Has entries_left e → IsEntry after e
  entry_left after there e in_entries =
      let left = in_left (has ace_node_place id) rows.entries e in_entries in
      let it = all_has (IsEntry rows) rows.entries e gives.entries left.0 in
      let m = node_number it.node it.there in
      let other : has rowid_place id it.node ≡ false = has_int 0 it.node (key it.node) (key card_row) m ∙ sym (has_int 1 e (key it.node) (key card_row) (it.its ∙ m)) ∙ left.1 in
      let y = there it.node (stays_in (has rowid_place id) rows.nodes it.node it.there other) in
      record { node = y.0; there = y.1; its = it.its ∙ sym y.2; list = it.list; protected = it.protected; place = it.place; spelled = it.spelled }

  -- a row whose number is in a column is at no path but the card's
  not_above : (above : Path) → IsPath above → IsNoCard above → (s : Row) → row_at rows (path_text above) ≡ Some s → rowid s ≡ rowid card_row → ⊥
  not_above above is_path no_card s found is =
      no_card b c (one_text above (path.Card b c) is_path (named, named_card) (numbers_apart rows gives.nodes shaped (path_text above) cp s card_row found at_card is))

  no_child : (child : Row) → Has rows.nodes child → has node_parent_place id child ≡ false
  no_child child there =
      let n = all_has (IsNode rows) rows.nodes child gives.nodes there in
      by_parent n.0 n.1.named (λ above. IsParent rows (node_parent child) above → has node_parent_place id child ≡ false)
      (λ null. has_null 3 child (key card_row) null)
      (λ above is_path no_card (s, found, is). false_from_ne_true (has node_parent_place id child) (λ hit.
      let ks = number_of_row rows gives.nodes shaped (path_text above) s found in
      not_above above is_path no_card s found (ks.1 ∙ ap Int (same_ints 3 child ks.0 (key card_row) (is ∙ ks.1) hit) ∙ sym id_is)))
      n.1.parent

  no_name : (name : Row) → Has rows.gone name → has gone_book_place id name ≡ false
  no_name name there =
      let it = all_has (IsRemoved rows) rows.gone name gives.removed there in
      let ks = number_of_row rows gives.nodes shaped (book_path it.book) it.there.0 it.there.1 in
      false_from_ne_true (has gone_book_place id name) (λ hit.
      not_above (path.Book it.book) it.named (λ a d e. cc) it.there.0 it.there.1 (ks.1 ∙ ap Int (same_ints 1 name ks.0 (key card_row) (it.there.2 ∙ ks.1) hit) ∙ sym id_is))

  -- without its entries, no row refers to the card
  pub free_card : AreFree (has rowid_place id) (delete_entries id rows)
  free_card = record {
    nodes = λ node child there own in_nodes out. ap (λ v. has node_parent_place v child) (ap rowid (own_row node there own) ∙ id_is) ∙ no_child child in_nodes;
    entries = λ node entry there own in_entries. ap (λ v. has ace_node_place v entry) (ap rowid (own_row node there own) ∙ id_is) ∙ (in_left (has ace_node_place id) rows.entries entry in_entries).1;
    gone = λ node name there own in_gone. ap (λ v. has gone_book_place v name) (ap rowid (own_row node there own) ∙ id_is) ∙ no_name name in_gone;
  }

  -- ---- the card is taken out of its book

  module _ (book : Book) (there : get o.books b ≡ Some book) (card : StoredCard) (its : get book.cards c ≡ Some card) (book_row : Row) (at_book_row : row_at rows (book_path b) ≡ Some book_row) where
    abbrev bp : List ℕ
    bp = book_path b

    abbrev n : ℕ
    n = book.changes.number + 1

    abbrev book_id : Value
    book_id = Int (id_in (rowid book_row))

    book_id_is : rowid book_row ≡ book_id
    book_id_is = node_number book_row (found_has (is_at bp) rows.nodes book_row at_book_row).0

    cards_apart : bp ≢ cp
    cards_apart is = book_or_card (one_text (path.Book b) (path.Card b c) named (named, named_card) is)

    abbrev pub after : Rows
    after = writes.remove_card_rows book_id id bp c n rows

    abbrev upd : Row → Row
    upd r = cond (is_at bp r) (with_number n r) r

    found_then : (t : List ℕ) → row_at after t ≡ option_map upd (find (is_at t) nodes_left)
    found_then t = row_changed nodes_left bp t (with_number n) (numbered_keeps n)

    untouched : (t : List ℕ) (found : Option Row) → row_at rows t ≡ found → t ≢ bp → option_map upd found ≡ found
    untouched t None is h = refl
    untouched t (Some r) is h = ap (λ x. Some (cond x (with_number n r) r)) (is_at_found rows gives.nodes shaped t bp r is ∙ apart t bp h)

    book_then : row_at after bp ≡ Some (with_number n book_row)
    book_then = found_then bp ∙ ap (option_map upd) (others_left bp cards_apart ∙ at_book_row)
        ∙ ap (λ t. Some (cond t (with_number n book_row) book_row)) (is_at_found rows gives.nodes shaped bp bp book_row at_book_row ∙ same_itself bp)

    elsewhere : (t : List ℕ) → t ≢ bp → t ≢ cp → row_at after t ≡ row_at rows t
    elsewhere t not_book not_card = found_then t ∙ ap (option_map upd) (others_left t not_card) ∙ untouched t (row_at rows t) refl not_book

    keeps_above : KeepsAbove rows after
    keeps_above q is_path no_card r found =
        let not_card : path_text q ≢ cp = λ is. no_card b c (one_text q (path.Card b c) is_path (named, named_card) is) in
        by_names (path_text q) bp (λ _. (s : Row) × (row_at after (path_text q) ≡ Some s) × (rowid s ≡ rowid r))
        (λ is. (with_number n book_row, ap (row_at after) is ∙ book_then, ap rowid (same_Some _ _ (sym at_book_row ∙ sym (ap (row_at rows) is) ∙ found))))
        (λ not_book. (r, elsewhere (path_text q) not_book not_card ∙ found, refl))

    touched : AreTouched rows after b c book_row None n
    touched = record {
      at_book = book_then;
      at_card = found_then cp ∙ ap (option_map upd) card_left;
      elsewhere = elsewhere;
      lists = lists_left;
      removed = λ a name named_a other. gone.added_elsewhere rows o gives shaped b c named book_row at_book_row rows.gone n book_id book_id_is (next_rowid rows.gone) a name named_a other;
      members = refl;
      meta = refl;
    }

    nodes_after : AllByRecursion (IsNode after) after.nodes
    nodes_after =
        all_updated (IsNode after) (is_at bp) (with_number n) (node_changed after (with_number n) (numbered_keeps n)) nodes_left
        (all_from_has (IsNode after) nodes_left (λ x in_nodes. node_kept rows after keeps_above x (all_has (IsNode rows) rows.nodes x gives.nodes (in_left (has rowid_place id) rows.nodes x in_nodes).0)))

    removed_after : AllByRecursion (IsRemoved after) after.gone
    removed_after =
        all-append (IsRemoved after) rows.gone _ (all_weaker (IsRemoved rows) (IsRemoved after) (gone_kept rows after keeps_above) rows.gone gives.removed)
        (gone_kept rows after keeps_above _ (gone.added_row rows o gives shaped b c named book_row at_book_row rows.gone n book_id book_id_is (next_rowid rows.gone)), tt)

    pub gives_without : Gives after (touched_office o b c book (remove book.cards c))
    gives_without =
        gives_touched rows after o gives b c book there (remove book.cards c) None (removed_here book.cards c) (removed_elsewhere book.cards c) named named_card book_row None at_book_row touched
        refl
        (gone.added_here rows o gives shaped b c named book_row at_book_row rows.gone n book_id book_id_is (next_rowid rows.gone) (not_gone rows o gives b c named book_row at_book_row book there card its))
        nodes_after
        (all_from_has (IsEntry after) entries_left (λ e there_e. entry_left after (λ x in_nodes. has_updated (is_at bp) (with_number n) (λ r. refl) nodes_left x in_nodes) e there_e))
        removed_after

-- ---- the edit

-- the name of a card of a sound book is one
pub name_of_card : (o : Office) (book : Book) → IsSoundBook o book → (c : List ℕ) (card : StoredCard) → get book.cards c ≡ Some card → IsName c
name_of_card o book sound c card its = where_some (get book.changes.last c) (sound.changed c card its) (λ n is. sound.names c n is)

-- a row at the path of a card may be taken out
pub fit_removal : (rows : Rows) (o : Office) → Gives rows o → IsShaped TableShape rows.nodes → ((t : List ℕ) → PassesOnce (is_at t) rows.nodes)
    → (b c : List ℕ) → IsName b → IsName c → FitCardRemoval (card_path b c) rows
fit_removal rows o gives shaped once b c named named_c = record { card = λ row found. free_card rows o gives shaped once b c named named_c row found }

module _ (b c : List ℕ) (rows : Rows) (o : Office) (given : Given rows o (RemoveCard b c)) where
  -- the book and the card
  record Both : Type 0 where
    book : Book
    there : get o.books b ≡ Some book
    card : StoredCard
    its : get book.cards c ≡ Some card
    named : IsName b
    named_card : IsName c

  both : Both
  both = where_some (card_at o b c) given.fits.possible (λ card is.
      by_option (get o.books b)
      (λ none. some_apart (sym is ∙ ap (option_and_then (λ (k : Book). get k.cards c)) none))
      (λ book there.
      let its : get book.cards c ≡ Some card = sym (ap (option_and_then (λ (k : Book). get k.cards c)) there) ∙ is in
      let sound = given.sound.books b book there in
      record { book = book; there = there; card = card; its = its; named = sound.0; named_card = name_of_card o book sound.1 c card its }))

  removal_gives : (after : Rows) → RemovesCard rows after (book_path b) (card_path b c) c → Gives after (apply o (RemoveCard b c))
  removal_gives _ made =
      let k = both in
      let at = at_book rows o given.gives given.sound b made.book made.there k.book k.there in
      let gives = gives_without rows o given.gives given.nodes.shaped given.nodes.once b c k.named k.named_card made.card made.card_there k.book k.there k.card k.its made.book made.there in
      subst (λ r. Gives r (apply o (RemoveCard b c)))
      (sym (made.rows_are ∙ (λ i. writes.remove_card_rows (Int (id_in (rowid made.book))) (Int (id_in (rowid made.card))) (book_path b) c (at.number i) rows)))
      (subst (Gives _) (sym (edited_book (remove_card c) o b k.book k.there)) gives)

  removal_fits : FitCardRemoval (card_path b c) rows
  removal_fits = let k = both in fit_removal rows o given.gives given.nodes.shaped given.nodes.once b c k.named k.named_card

pub removes_card : (b c : List ℕ) → GivesEdited (RemoveCard b c) (removing_card (book_path b) (card_path b c) c)
removes_card b c = record {
  fits = λ rows o given. removal_fits b c rows o given;
  gives = λ rows after o given made. removal_gives b c rows o given after made;
  reach = λ rows after o given made holds. still_holds rows after o.pairs o.pairs (removal_keeps rows after (book_path b) (card_path b c) c made) refl holds;
}
