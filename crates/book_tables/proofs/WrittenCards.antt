-- The rows after a card was written, in a new row or over one that is there.
use Rattle.book_tables.proofs.Common.{◌≡◌, ◌≢◌, ℕ, ℤ, pos, ◌<ℤ◌, arith, ◌+◌, Bool, true, false, not, cond, List, [], ◌∷◌, ◌++◌, find, filter, map, Option, Some, None, option_map, option_and_then, refl, sym, ap, subst, ◌∙◌, ints, get, insert, AllByRecursion, same_Some, Value, Int, Text, next_rowid, id_in, Row, rowid, IsShaped, all_weaker, all-append, all_has, update_where, delete_where, sort_by, int_eq_apart, IsName, Book, StoredCard, Office, parent_of, book_path, card_path, one_text, same, same_itself, by_names, some_apart, put_here, put_elsewhere, card_resource, card_in, number_of, ace_node_place, node_number, node_parent, node_path, Rows, has, number_in, text_in, is_at, is_gone, is_entry, by_place, with_number, node_row, key, key_is, keyed, next_is, row_at, resource_of, list_in, entry_of, IsParent, IsNode, IsEntry, IsRemoved, Gives}
use Rattle.sqlite.specs.Collation.TheVariants.{Binary}
use Rattle.sqlite_schema.specs.Rules.{equal}
use Rattle.sqlite_trees.specs.declared.store.Shape.TheVariants.{Table as TableShape}
use Rattle.sqlite_trees.proofs.ListLemmas.{all-filter}
use Rattle.book_office_values.specs.declared.paths.Kind.TheVariants as kind
use Rattle.book_office_values.specs.declared.paths.Path.TheVariants as path
use Rattle.book_tables_rows.specs.Columns.{node_kind}
use Rattle.book_tables_rows.specs.Writes.{or_null, set_number, delete_gone_name, insert_node}
use Rattle.book_tables.proofs.Looking.{found_has, find-update_where, has_text, has_int}
use Rattle.book_tables.proofs.LeftRows.{book_or_card}
use Rattle.book_tables.proofs.RowFacts.{apart, row_added, KeepsNumbers, KeepsRows, kept_node, kept_entry, kept_removed, has_updated, has_appended, all_updated, all_from_has, found_at, is_at_found}
use Rattle.book_tables.proofs.TouchedOffices.{touched_office}
use Rattle.book_tables.proofs.TouchedRows.{AreTouched, gives_touched}
use Rattle.book_tables.proofs.GoneNames as gone

-- columns that an update keeps
pub record KeepsColumns (f : Row → Row) : Type 0 where
  pub id : (r : Row) → rowid (f r) ≡ rowid r
  pub path : (r : Row) → node_path (f r) ≡ node_path r
  pub parent : (r : Row) → node_parent (f r) ≡ node_parent r
  pub kind : (r : Row) → node_kind (f r) ≡ node_kind r
  pub number : (r : Row) → node_number (f r) ≡ Int (pos (number_in (node_number (f r))))

pub node_changed : (rows : Rows) (f : Row → Row) → KeepsColumns f → (r : Row) → IsNode rows r → IsNode rows (f r)
node_changed rows f k r (p, n) = (
  p,
  record {
    named = n.named;
    path = k.path r ∙ n.path;
    parent = subst (λ v. IsParent rows v (parent_of p)) (sym (k.parent r)) n.parent;
    kind = k.kind r ∙ n.kind;
    number = k.number r;
  },
)

pub numbered_keeps : (n : ℕ) → KeepsColumns (with_number n)
numbered_keeps n = record { id = λ r. refl; path = λ r. refl; parent = λ r. refl; kind = λ r. refl; number = λ r. refl }

-- the row at a text, after the row at another was changed
pub row_changed : (nodes : List Row) (at t : List ℕ) (f : Row → Row) → KeepsColumns f → find (is_at t) (update_where (is_at at) f nodes) ≡ option_map (λ r. cond (is_at at r) (f r) r) (find (is_at t) nodes)
row_changed nodes at t f k = find-update_where (is_at t) (is_at at) f (λ r. ap (λ v. equal Binary v (Text t)) (k.path r)) nodes

-- ---- the list of a node that isn't there

no_entries : (entries : List Row) (id : ℤ) (pr : Bool) → AllByRecursion (λ e. has ace_node_place (Int id) e ≡ false) entries → filter (is_entry (Int id) pr) entries ≡ []
no_entries [] id pr none = refl
no_entries (e ∷ es) id pr none = rw (none.0) (no_entries es id pr none.1)

pub below_apart : (a b : ℤ) → a <ℤ b → a ≡ b → ⊥
below_apart a b less is = omega (arith, ints, less, is)

pub owner_told : (owner : Option (List ℕ)) → text_in (or_null owner) ≡ owner
owner_told None = refl
owner_told (Some o) = refl

-- a node with a new number has no entries
pub new_list : (rows : Rows) → AllByRecursion (IsEntry rows) rows.entries → IsShaped TableShape rows.nodes → (pr : Bool) → list_in rows.entries (Int (next_rowid rows.nodes)) pr ≡ []
new_list rows entries shaped pr =
    let next = next_rowid rows.nodes in
    ap (λ es. map entry_of (sort_by by_place es)) (no_entries rows.entries next pr (all_from_has _ rows.entries (λ e in_entries.
    let it = all_has (IsEntry rows) rows.entries e entries in_entries in
    let below = all_has (λ r. key r <ℤ next) rows.nodes it.node (next_is rows.nodes (keyed rows.nodes shaped)) it.there in
    let int = key_is it.node (all_has _ rows.nodes it.node shaped.1 it.there) in
    has_int 1 e (key it.node) next (it.its ∙ int) ∙ int_eq_apart (key it.node) next (λ is. below_apart (key it.node) next below is))))

pub all_filter_weaker : (P Q : Row → Type 0) → ((x : Row) → P x → Q x) → (p : Row → Bool) (xs : List Row) → AllByRecursion P xs → AllByRecursion Q (delete_where p xs)
all_filter_weaker P Q f p xs all = all-filter Q (λ x. not (p x)) xs (all_weaker P Q f xs all)

-- the row of a card and the card are changed alike, and the row gets the number
pub record AreAlike (n : ℕ) (f : Row → Row) (g : StoredCard → StoredCard) : Type 0 where
  pub columns : KeepsColumns f
  pub resource : (entries : List Row) (r : Row) (k : ℕ) (card : StoredCard) → resource_of entries r ≡ card_resource k card → resource_of entries (f r) ≡ card_resource n (g card)

module _ (rows : Rows) (o : Office) (gives : Gives rows o) (shaped : IsShaped TableShape rows.nodes) (b c : List ℕ) (book : Book) (there : get o.books b ≡ Some book)
    (named : IsName b) (named_card : IsName c) (book_row : Row) (at_book : row_at rows (book_path b) ≡ Some book_row) where
  abbrev bp : List ℕ
  bp = book_path b

  abbrev cp : List ℕ
  cp = card_path b c

  abbrev n : ℕ
  n = book.changes.number + 1

  abbrev book_id : Value
  book_id = Int (id_in (rowid book_row))

  pub book_id_is : rowid book_row ≡ book_id
  book_id_is = key_is book_row (all_has _ rows.nodes book_row shaped.1 (found_has (is_at bp) rows.nodes book_row at_book).0)

  cards_apart : cp ≢ bp
  cards_apart is = book_or_card (sym (one_text (path.Card b c) (path.Book b) (named, named_card) named is))

  abbrev upd : Row → Row
  upd r = cond (is_at bp r) (with_number n r) r

  book_then : upd book_row ≡ with_number n book_row
  book_then = ap (λ t. cond t (with_number n book_row) book_row) (is_at_found rows gives.nodes shaped bp bp book_row at_book ∙ same_itself bp)

  -- a row that is found at another text isn't the book's
  untouched : (t : List ℕ) (found : Option Row) → row_at rows t ≡ found → t ≢ bp → option_map upd found ≡ found
  untouched t None is h = refl
  untouched t (Some r) is h = ap (λ x. Some (cond x (with_number n r) r)) (is_at_found rows gives.nodes shaped t bp r is ∙ apart t bp h)

  abbrev left : List Row
  left = delete_where (is_gone book_id c) rows.gone

  left_is : gone.left rows o gives shaped b c named book_row at_book rows.gone gives.removed ≡ left
  left_is = ap (λ v. delete_where (is_gone v c) rows.gone) book_id_is

  -- rows in which the card has been written
  pub record AreWritten (after : Rows) (card_row : Row) : Type 0 where
    pub touched_book : row_at after bp ≡ Some (with_number n book_row)
    pub at_card : row_at after cp ≡ Some card_row
    pub elsewhere : (t : List ℕ) → t ≢ bp → t ≢ cp → row_at after t ≡ row_at rows t
    pub entries : after.entries ≡ rows.entries
    pub keeps : KeepsRows rows after
    pub same_card : (r : Row) → row_at rows cp ≡ Some r → rowid card_row ≡ rowid r
    pub gone : after.gone ≡ left
    pub members : after.members ≡ rows.members
    pub meta : after.meta ≡ rows.meta

  module _ (after : Rows) (card_row : Row) (are : AreWritten after card_row) where
    pub keeps_numbers : KeepsNumbers rows after
    keeps_numbers t r found =
        by_names t bp (λ _. (s : Row) × (row_at after t ≡ Some s) × (rowid s ≡ rowid r))
        (λ is. (with_number n book_row, ap (row_at after) is ∙ are.touched_book, ap rowid (same_Some _ _ (sym at_book ∙ sym (ap (row_at rows) is) ∙ found))))
        (λ not_book. by_names t cp (λ _. (s : Row) × (row_at after t ≡ Some s) × (rowid s ≡ rowid r))
        (λ is. (card_row, ap (row_at after) is ∙ are.at_card, are.same_card r (sym (ap (row_at rows) is) ∙ found)))
        (λ not_card. (r, are.elsewhere t not_book not_card ∙ found, refl)))

    touched : AreTouched rows after b c book_row (Some card_row) n
    touched = record {
      at_book = are.touched_book;
      at_card = are.at_card;
      elsewhere = are.elsewhere;
      lists = λ t r found differs pr. ap (λ es. list_in es (rowid r) pr) are.entries;
      removed = λ a name named_a other.
          ap (λ g. Rattle.book_tables.specs.Rows.removed_from g name (row_at rows (book_path a))) (are.gone ∙ sym left_is)
          ∙ gone.deleted_elsewhere rows o gives shaped b c named book_row at_book rows.gone gives.removed a name named_a other;
      members = are.members;
      meta = are.meta;
    }

    pub gives_written : (card : StoredCard) → resource_of rows.entries card_row ≡ card_resource n card → AllByRecursion (IsNode after) after.nodes
        → Gives after (touched_office o b c book (insert book.cards c card))
    gives_written card is nodes =
        gives_touched rows after o gives b c book there (insert book.cards c card) (Some card) (put_here book.cards c card) (put_elsewhere book.cards c card) named named_card book_row (Some card_row) at_book touched
        (ap Some (ap (λ es. resource_of es card_row) are.entries ∙ is))
        (ap (λ g. Rattle.book_tables.specs.Rows.removed_from g c (Some book_row)) (are.gone ∙ sym left_is)
        ∙ gone.deleted_here rows o gives shaped b c named book_row at_book rows.gone gives.removed)
        nodes
        (subst (AllByRecursion (IsEntry after)) (sym are.entries) (all_weaker (IsEntry rows) (IsEntry after) (kept_entry rows after are.keeps) rows.entries gives.entries))
        (subst (AllByRecursion (IsRemoved after)) (sym are.gone) (all_filter_weaker (IsRemoved rows) (IsRemoved after) (kept_removed rows after keeps_numbers) (is_gone book_id c) rows.gone gives.removed))

  -- ---- a new card

  module _ (none : row_at rows cp ≡ None) (owner : Option (List ℕ)) (label text : List ℕ) where
    abbrev next : ℤ
    next = next_rowid rows.nodes

    abbrev new : Row
    new = node_row next cp book_id 5 owner label (Some text) n

    abbrev mid : List Row
    mid = rows.nodes ++ new ∷ []

    abbrev pub rows_new : Rows
    rows_new = set_number bp n (delete_gone_name book_id c (insert_node cp book_id 5 owner label (Some text) n rows))

    added : (t : List ℕ) → find (is_at t) mid ≡ cond (same cp t) (Some new) (row_at rows t)
    added t = row_added rows.nodes new cp t refl none

    changed : (t : List ℕ) → row_at rows_new t ≡ option_map upd (find (is_at t) mid)
    changed t = row_changed mid bp t (with_number n) (numbered_keeps n)

    are : AreWritten rows_new new
    are = record {
      touched_book = changed bp ∙ ap (option_map upd) (added bp ∙ ap (λ t. cond t (Some new) (row_at rows bp)) (apart cp bp cards_apart) ∙ at_book) ∙ ap Some book_then;
      at_card = changed cp ∙ ap (option_map upd) (added cp ∙ ap (λ t. cond t (Some new) (row_at rows cp)) (same_itself cp))
          ∙ ap (λ t. Some (cond t (with_number n new) new)) (has_text 2 new cp bp refl ∙ apart cp bp cards_apart);
      elsewhere = λ t not_book not_card. changed t
          ∙ ap (option_map upd) (added t ∙ ap (λ x. cond x (Some new) (row_at rows t)) (apart cp t (λ is. not_card (sym is))))
          ∙ untouched t (row_at rows t) refl not_book;
      entries = refl;
      keeps = λ x h. has_updated (is_at bp) (with_number n) (λ r. refl) mid x (has_appended rows.nodes (new ∷ []) x h);
      same_card = λ r found. some_apart (sym found ∙ none);
      gone = refl;
      members = refl;
      meta = refl;
    }

    empty_list : (pr : Bool) → list_in rows.entries (Int next) pr ≡ []
    empty_list = new_list rows gives.entries shaped

    abbrev pub card_new : StoredCard
    card_new = record { owner = owner; label = label; own = []; text = text }

    new_resource : resource_of rows.entries new ≡ card_resource n card_new
    new_resource = λ i. record {
      kind = kind.Card;
      owner = owner_told owner i;
      label = label;
      text = Some text;
      number = n;
      protected = empty_list true i;
      own = empty_list false i;
    }

    nodes : AllByRecursion (IsNode rows_new) rows_new.nodes
    nodes =
        let keeps = keeps_numbers rows_new new are in
        let new_node : IsNode rows_new new = (path.Card b c, record { named = (named, named_card); path = refl; parent = (with_number n book_row, are.touched_book, sym book_id_is); kind = refl; number = refl }) in
        all_updated (IsNode rows_new) (is_at bp) (with_number n) (node_changed rows_new (with_number n) (numbered_keeps n)) mid
        (all-append (IsNode rows_new) rows.nodes (new ∷ []) (all_weaker (IsNode rows) (IsNode rows_new) (kept_node rows rows_new keeps) rows.nodes gives.nodes) (new_node, tt))

    pub gives_new : Gives rows_new (touched_office o b c book (insert book.cards c card_new))
    gives_new = gives_written rows_new new are card_new new_resource nodes

  -- ---- a card that is there

  module _ (old : Row) (at_card : row_at rows cp ≡ Some old) (card : StoredCard) (its : get book.cards c ≡ Some card) (f : Row → Row) (g : StoredCard → StoredCard) (alike : AreAlike n f g) where
    abbrev written : List Row
    written = update_where (is_at cp) f rows.nodes

    abbrev pub rows_old : Rows
    rows_old = set_number bp n (delete_gone_name book_id c (record rows { nodes = written }))

    abbrev upd_card : Row → Row
    upd_card r = cond (is_at cp r) (f r) r

    found_then : (t : List ℕ) → row_at rows_old t ≡ option_map upd (option_map upd_card (row_at rows t))
    found_then t = row_changed written bp t (with_number n) (numbered_keeps n) ∙ ap (option_map upd) (row_changed rows.nodes cp t f alike.columns)

    text_at : node_path (f old) ≡ Text cp
    text_at = alike.columns.path old ∙ found_at rows gives.nodes shaped cp old at_card

    not_written : (t : List ℕ) (found : Option Row) → row_at rows t ≡ found → t ≢ cp → option_map upd_card found ≡ found
    not_written t None is h = refl
    not_written t (Some r) is h = ap (λ x. Some (cond x (f r) r)) (is_at_found rows gives.nodes shaped t cp r is ∙ apart t cp h)

    are_old : AreWritten rows_old (f old)
    are_old = record {
      touched_book = found_then bp ∙ ap (option_map upd) (not_written bp (row_at rows bp) refl (λ is. cards_apart (sym is)) ∙ at_book) ∙ ap Some book_then;
      at_card = found_then cp ∙ ap (λ x. option_map upd (option_map upd_card x)) at_card
          ∙ ap (λ t. Some (upd (cond t (f old) old))) (is_at_found rows gives.nodes shaped cp cp old at_card ∙ same_itself cp)
          ∙ ap (λ t. Some (cond t (with_number n (f old)) (f old))) (has_text 2 (f old) cp bp text_at ∙ apart cp bp cards_apart);
      elsewhere = λ t not_book not_card. found_then t ∙ ap (option_map upd) (not_written t (row_at rows t) refl not_card) ∙ untouched t (row_at rows t) refl not_book;
      entries = refl;
      keeps = λ x h.
          let one = has_updated (is_at cp) f alike.columns.id rows.nodes x h in
          let two = has_updated (is_at bp) (with_number n) (λ r. refl) written one.0 one.1 in
          (two.0, two.1, two.2 ∙ one.2);
      same_card = λ r found. alike.columns.id old ∙ ap rowid (same_Some _ _ (sym at_card ∙ found));
      gone = refl;
      members = refl;
      meta = refl;
    }

    nodes_old : AllByRecursion (IsNode rows_old) rows_old.nodes
    nodes_old =
        let keeps = keeps_numbers rows_old (f old) are_old in
        all_updated (IsNode rows_old) (is_at bp) (with_number n) (node_changed rows_old (with_number n) (numbered_keeps n)) written
        (all_updated (IsNode rows_old) (is_at cp) f (node_changed rows_old f alike.columns) rows.nodes
        (all_weaker (IsNode rows) (IsNode rows_old) (kept_node rows rows_old keeps) rows.nodes gives.nodes))

    pub gives_old : Gives rows_old (touched_office o b c book (insert book.cards c (g card)))
    gives_old =
        let told : resource_of rows.entries old ≡ card_resource (number_of book c) card =
        same_Some _ _ (sym (ap (option_map (resource_of rows.entries)) at_card) ∙ gives.resources (path.Card b c) (named, named_card)
        ∙ ap (option_and_then (λ (k : Book). card_in k c)) there ∙ ap (option_map (card_resource (number_of book c))) its) in
        gives_written rows_old (f old) are_old (g card) (alike.resource rows.entries old (number_of book c) card told) nodes_old
