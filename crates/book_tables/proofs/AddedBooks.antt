-- MKCOL: the rows with a new book give the Office with it.
use Rattle.book_tables.proofs.Common.{◌≡◌, ◌≢◌, ℕ, ℤ, ◌<ℤ◌, Bool, true, false, cond, ◌&&◌, List, [], ◌∷◌, find, Option, Some, None, option_map, option_and_then, refl, sym, ap, subst, ◌∙◌, get, get-empty, AllByRecursion, Value, Int, Text, next_rowid, id_in, Row, rowid, all_weaker, all-append, all_has, int_eq_apart, IsName, name_cmp, Book, Office, Path, IsPath, path_text, book_path, one_text, same, same_itself, by_names, some_apart, put_here, put_elsewhere, apply, resource_at, removed_at, book_resource, card_in, unless_mapped, gone_book_place, gone_name_place, gone_number, Rows, has, number_in, is_at, is_gone, node_row, key, key_is, keyed, next_is, row_at, resource_in, resource_of, list_in, removed_in, removed_from, IsNode, IsEntry, IsRemoved, Gives}
use Rattle.book_office_values.specs.Fresh.{new_book}
use Rattle.book_office_values.specs.declared.paths.Kind.TheVariants as kind
use Rattle.book_office_values.specs.declared.paths.Path.TheVariants as path
use Rattle.book_office.specs.declared.edits.Edit.TheVariants.{AddBook}
use Rattle.book_office.specs.Edits.{add_book}
use Rattle.book_tables_rows.specs.Nodes.{adding_book}
use Rattle.book_tables_rows.specs.Writes as writes
use Rattle.book_tables.proofs.Acting.{Given, GivesEdited}
use Rattle.book_tables.proofs.KeptReach.{book_keeps, still_holds}
use Rattle.book_tables.proofs.Looking.{found_has, has_int}
use Rattle.book_tables.proofs.LeftRows.{book_name}
use Rattle.book_tables.proofs.RowFacts.{apart, row_added, KeepsNumbers, KeepsRows, kept_node, kept_entry, kept_removed, has_appended, all_from_has}
use Rattle.book_tables.proofs.WrittenCards.{new_list, owner_told, below_apart}
use Rattle.book_tables.proofs.CardEdits.{unmapped}

pub none_found : (p : Row → Bool) (xs : List Row) → AllByRecursion (λ x. p x ≡ false) xs → find p xs ≡ None
none_found p [] h = refl
none_found p (x ∷ xs) h = rw (h.0) (none_found p xs h.1)

module _ (b : List ℕ) (owner : Option (List ℕ)) (rows : Rows) (o : Office) (given : Given rows o (AddBook b owner)) (home : Row) (at_home : row_at rows (path_text path.Books) ≡ Some home) where
  abbrev bp : List ℕ
  bp = book_path b

  abbrev o' : Office
  o' = add_book b owner o

  book_there : get o'.books b ≡ Some (new_book owner)
  book_there = put_here o.books b (new_book owner)

  named : IsName b
  named = (given.fits.sound.books b (new_book owner) book_there).0

  none_before : resource_at o (path.Book b) ≡ None
  none_before = ap (option_map book_resource) given.fits.possible

  none : row_at rows bp ≡ None
  none = unmapped (resource_of rows.entries) (row_at rows bp) (given.gives.resources (path.Book b) named ∙ none_before)

  abbrev id : Value
  id = Int (id_in (rowid home))

  home_is : rowid home ≡ id
  home_is = key_is home (all_has _ rows.nodes home given.nodes.shaped.1 (found_has (is_at (path_text path.Books)) rows.nodes home at_home).0)

  abbrev next : ℤ
  next = next_rowid rows.nodes

  abbrev new : Row
  new = node_row next bp id 4 owner [] None 0

  abbrev pub after : Rows
  after = writes.add_book_rows id bp owner rows

  added : (t : List ℕ) → row_at after t ≡ cond (same bp t) (Some new) (row_at rows t)
  added t = row_added rows.nodes new bp t refl none

  at_new : row_at after bp ≡ Some new
  at_new = added bp ∙ ap (λ t. cond t (Some new) (row_at rows bp)) (same_itself bp)

  elsewhere : (t : List ℕ) → t ≢ bp → row_at after t ≡ row_at rows t
  elsewhere t differs = added t ∙ ap (λ x. cond x (Some new) (row_at rows t)) (apart bp t (λ is. differs (sym is)))

  keeps_numbers : KeepsNumbers rows after
  keeps_numbers t r found = by_names t bp (λ _. (s : Row) × (row_at after t ≡ Some s) × (rowid s ≡ rowid r))
      (λ is. some_apart (sym found ∙ ap (row_at rows) is ∙ none))
      (λ differs. (r, elsewhere t differs ∙ found, refl))

  keeps_rows : KeepsRows rows after
  keeps_rows x there = (x, has_appended rows.nodes (new ∷ []) x there, refl)

  empty_list : (pr : Bool) → list_in rows.entries (Int next) pr ≡ []
  empty_list = new_list rows given.gives.entries given.nodes.shaped

  new_resource : resource_of rows.entries new ≡ book_resource (new_book owner)
  new_resource = λ i. record {
    kind = kind.Book;
    owner = owner_told owner i;
    label = [];
    text = None;
    number = 0;
    protected = empty_list true i;
    own = empty_list false i;
  }

  -- ---- resources

  other_path : (p : Path) → IsPath p → p ≢ path.Book b → resource_in after (path_text p) ≡ resource_at o p
  other_path p is_path differs =
      ap (option_map (resource_of rows.entries)) (elsewhere (path_text p) (λ is. differs (one_text p (path.Book b) is_path named is))) ∙ given.gives.resources p is_path

  resources : (p : Path) → IsPath p → resource_in after (path_text p) ≡ resource_at o' p
  resources path.Root x = other_path path.Root x (λ e. cc)
  resources path.People x = other_path path.People x (λ e. cc)
  resources path.Groups x = other_path path.Groups x (λ e. cc)
  resources path.Books x = other_path path.Books x (λ e. cc)
  resources (path.Person m) x = other_path (path.Person m) x (λ e. cc)
  resources (path.Group m) x = other_path (path.Group m) x (λ e. cc)
  resources (path.Book a) x = by_names a b (λ _. resource_in after (book_path a) ≡ resource_at o' (path.Book a))
      (λ is. ap (λ z. resource_in after (book_path z)) is ∙ ap (option_map (resource_of rows.entries)) at_new ∙ ap Some new_resource
      ∙ sym (ap (option_map book_resource) book_there) ∙ ap (λ z. resource_at o' (path.Book z)) (sym is))
      (λ differs. other_path (path.Book a) x (λ e. differs (book_name e)) ∙ sym (ap (option_map book_resource) (put_elsewhere o.books b (new_book owner) a differs)))
  resources (path.Card a c) x = other_path (path.Card a c) x (λ e. cc) ∙ by_names a b (λ _. resource_at o (path.Card a c) ≡ resource_at o' (path.Card a c))
      (λ is. ap (option_and_then (λ (book : Book). card_in book c)) (ap (get o.books) is ∙ given.fits.possible)
      ∙ sym (ap (option_and_then (λ (book : Book). card_in book c)) (ap (get o'.books) is ∙ book_there) ∙ ap (option_map _) (get-empty name_cmp c)))
      (λ differs. sym (ap (option_and_then (λ (book : Book). card_in book c)) (put_elsewhere o.books b (new_book owner) a differs)))

  -- ---- removed names

  no_names : (name : List ℕ) → find (is_gone (Int next) name) rows.gone ≡ None
  no_names name = none_found (is_gone (Int next) name) rows.gone (all_from_has _ rows.gone (λ x there.
      let it = all_has (IsRemoved rows) rows.gone x given.gives.removed there in
      let row = it.there.0 in
      let in_nodes = (found_has (is_at (book_path it.book)) rows.nodes row it.there.1).0 in
      let int = key_is row (all_has _ rows.nodes row given.nodes.shaped.1 in_nodes) in
      let below = all_has (λ r. key r <ℤ next) rows.nodes row (next_is rows.nodes (keyed rows.nodes given.nodes.shaped)) in_nodes in
      let fails : has gone_book_place (Int next) x ≡ false = has_int 1 x (key row) next (it.there.2 ∙ int) ∙ int_eq_apart (key row) next (λ is. below_apart (key row) next below is) in
      ap (λ t. t && has gone_name_place (Text name) x) fails))

  gone : (a name : List ℕ) → IsName a → removed_in after a name ≡ removed_at o' a name
  gone a name named_a = by_names a b (λ _. removed_in after a name ≡ removed_at o' a name)
      (λ is. ap (λ z. removed_in after z name) is ∙ ap (removed_from rows.gone name) at_new ∙ ap (option_map (λ row. number_in (gone_number row))) (no_names name)
      ∙ sym (ap (λ z. removed_at o' z name) is ∙ ap (option_and_then (λ (k : Book). unless_mapped (get k.cards name) (get k.changes.last name))) book_there
      ∙ ap (λ r. unless_mapped r (get (new_book owner).changes.last name)) (get-empty name_cmp name) ∙ get-empty name_cmp name))
      (λ differs. ap (removed_from rows.gone name) (elsewhere (book_path a) (λ is. differs (book_name (one_text (path.Book a) (path.Book b) named_a named is))))
      ∙ given.gives.gone a name named_a
      ∙ sym (ap (option_and_then (λ (k : Book). unless_mapped (get k.cards name) (get k.changes.last name))) (put_elsewhere o.books b (new_book owner) a differs)))

  -- ---- rows

  new_node : IsNode after new
  new_node =
      let up = keeps_numbers (path_text path.Books) home at_home in
      (path.Book b, record { named = named; path = refl; parent = (up.0, up.1, sym (up.2 ∙ home_is)); kind = refl; number = refl })

  pub gives_added : Gives after o'
  gives_added = record {
    nodes = all-append (IsNode after) rows.nodes (new ∷ []) (all_weaker (IsNode rows) (IsNode after) (kept_node rows after keeps_numbers) rows.nodes given.gives.nodes) (new_node, tt);
    entries = all_weaker (IsEntry rows) (IsEntry after) (kept_entry rows after keeps_rows) rows.entries given.gives.entries;
    removed = all_weaker (IsRemoved rows) (IsRemoved after) (kept_removed rows after keeps_numbers) rows.gone given.gives.removed;
    resources = resources;
    members = given.gives.members;
    gone = gone;
    meta = given.gives.meta;
  }

pub adds_book : (b : List ℕ) (owner : Option (List ℕ)) → GivesEdited (AddBook b owner) (adding_book (path_text path.Books) (book_path b) owner)
adds_book b owner = record {
  fits = λ rows o given. tt;
  gives = λ rows after o given made. subst (λ r. Gives r (apply o (AddBook b owner))) (sym made.rows_are) (gives_added b owner rows o given made.home made.there);
  reach = λ rows after o given made holds. still_holds rows after o.pairs o.pairs (book_keeps rows after (path_text path.Books) (book_path b) owner made) refl holds;
}
