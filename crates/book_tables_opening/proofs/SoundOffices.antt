-- An Office that is built of rows which are those of an Office is sound.
use Rattle.book_tables_opening.proofs.Common.{◌≡◌, inl, refl, ℕ, ℤ, pos, ◌≤◌, nat_eq, true, ◌&&◌, List, [], ◌∷◌, map, filter, find, length, Some, is_some, option_map, unwrap_or, sym, ap, subst, ◌∙◌, true≢false, arith, get, len, and_parts, Value, Int, Text, id_in, Database, Row, column, rowid, IsShaped, Has, all_has, MAX_MEMBERS, MAX_CARDS, MAX_BOOKS, members_of, IsName, Membership, Book, Office, Properties, StoredCard, Kind, Path, IsPath, book_path, parent_of, kind_of, is_same, by_option, some_apart, resource_at, properties_resource, book_resource, IsMappedGroup, IsMapped, AreSoundProperties, IsSound, member_group, member_group_place, member_member, meta_epoch, meta_version, node_parent, node_parent_place, number_in, text_in, Rows, rows_of, has, IsBook, pairs_of, entries_shown, gone_shown, meta_shown, row_at, kind_code, is_member, found_has, has_text, same_ints, number_of_row, has_map, is_of_kind, number_at, IsBelow, IsMemberRow, Key, same_key, AreOfficeRows, shown_parent, node_shown, whole_nodes}
use Rattle.std.specs.FinSet as set
use Rattle.sqlite_trees.specs.declared.store.Shape.TheVariants.{Table as TableShape}
use Rattle.book_limits.specs.declared.TheConstants.{LAST_NUMBER}
use Rattle.book_office_values.specs.declared.paths.Kind.TheVariants as kind
use Rattle.book_office_values.specs.declared.paths.Path.TheVariants as path
use Rattle.book_office.specs.Sound.{IsSoundBook, IsSoundPair}
use Rattle.book_tables_rows.specs.Schema.{node_table}
use Rattle.book_tables_opening.specs.Opening.{card_keys, group_keys}
use Rattle.book_tables_opening.specs.Shown.{shown_group}
use Rattle.book_tables_opening.proofs.BookNumbers.{numbers_within, numbers_differ}
use Rattle.book_tables_opening.proofs.BuiltOffices.{IsBuiltOf}
use Rattle.book_tables_opening.proofs.CountedRows.{count_keys, count_filtered, count_shown, same_keys, at_most}
use Rattle.book_tables_opening.proofs.RowsOfPaths.{node_row, mapped, mapped_group}
use Rattle.book_tables_opening.proofs.SoundResources.{row_at_path, sound_resource, sound_properties, sound_card}

-- a card stands under a number
under_number : (nodes : List Row) (p : Path) (v : Value) → nat_eq (kind_code (kind_of p)) 5 ≡ true → IsBelow nodes (parent_of p) v → (i : ℤ) × (v ≡ Int i)
under_number nodes path.Root v h below = absurd (true≢false (sym h))
under_number nodes path.People v h below = (below.0, below.2)
under_number nodes path.Groups v h below = (below.0, below.2)
under_number nodes path.Books v h below = (below.0, below.2)
under_number nodes (path.Person n) v h below = (below.0, below.2)
under_number nodes (path.Group n) v h below = (below.0, below.2)
under_number nodes (path.Book b) v h below = (below.0, below.2)
under_number nodes (path.Card b c) v h below = (below.0, below.2)

pair_epoch : (a b : ℕ) → ◌≡◌ {A = List Row} ((Int (pos 2) ∷ Int (pos a) ∷ []) ∷ []) ((Int (pos 2) ∷ Int (pos b) ∷ []) ∷ []) → b ≡ a
pair_epoch a b e = cc

module _ (rows : Rows) (o : Office) (shaped : IsShaped TableShape rows.nodes) (built : IsBuiltOf rows o)
    (are : AreOfficeRows (whole_nodes rows) (entries_shown rows) (pairs_of rows) (gone_shown rows) (meta_shown rows)) where
  -- ---- books

  in_book : (id : ℤ) (x : Row) → Has rows.nodes x → is_of_kind 5 (node_shown x) ≡ true → has node_parent_place (Int id) x ≡ true → same_key (id, pos 0) (id_in (node_parent x), pos 0) ≡ true
  in_book id x there of_card passes =
      let it = node_row rows are.each_node x there in
      let under = under_number (whole_nodes rows) it.at (node_parent x) (ap (λ v. nat_eq (number_in v) 5) (sym it.kind) ∙ of_card) it.parent in
      let one : id ≡ id_in (node_parent x) = sym (ap id_in under.1 ∙ same_ints 3 x under.0 id under.1 passes) in
      same_keys (id, pos 0) (id_in (node_parent x), pos 0) (λ i. (one i, pos 0))

  few_cards : (name : List ℕ) (book : Book) → get o.books name ≡ Some book → (row : Row) → row_at rows (book_path name) ≡ Some row → (id : ℤ) → rowid row ≡ Int id → len book.cards ≤ MAX_CARDS
  few_cards name book here row found id id_is =
      let cards : len book.cards ≤ length (filter (λ x. is_of_kind 5 (node_shown x) && has node_parent_place (Int id) x) rows.nodes) =
      subst (λ v. len book.cards ≤ length (filter (λ x. is_of_kind 5 (node_shown x) && has node_parent_place v x) rows.nodes)) id_is (built.few_cards name book row here found) in
      let counted = count_filtered node_shown (λ (row : Row). (id_in (shown_parent row), pos 0)) (same_key (id, pos 0)) (has node_parent_place (Int id)) (is_of_kind 5) rows.nodes (in_book id) in
      let most = at_most MAX_CARDS (card_keys (whole_nodes rows)) are.cards (id, pos 0) in
      omega (arith, cards, counted, most)

  properties : (p : Path) (named : IsPath p) (k : Kind) (n : ℕ) (its : Properties)
      → resource_at o p ≡ Some (properties_resource k n its) → AreSoundProperties o its
  properties = sound_properties rows o built.gives shaped are.each_node are.each_entry are.lists

  sound_book : (name : List ℕ) (book : Book) → IsName name → get o.books name ≡ Some book → IsSoundBook o book
  sound_book name book named here =
      let there = ap (option_map book_resource) here in
      let changes = built.changes name book here in
      let card_name = λ (c : List ℕ) (card : StoredCard) (at : get book.cards c ≡ Some card). changes.names c (changes.changed c (λ none. some_apart (sym at ∙ none))) in
      row_at_path rows o built.gives (path.Book name) named (book_resource book) there (λ row found is.
      let number = number_of_row rows built.gives.nodes shaped (book_path name) row found in
      record {
        properties = properties (path.Book name) named kind.Book book.changes.number book.properties there;
        cards = λ c card at. sound_card rows o built.gives shaped are.each_node are.each_entry are.lists name c named (card_name c card at) book card here at;
        few = few_cards name book here row found number.0 number.1;
        changed = λ c card at. changes.changed c (λ none. some_apart (sym at ∙ none));
        names = λ c n last. changes.names c (λ none. some_apart (sym last ∙ none));
        within = numbers_within rows o built.gives shaped are.each_node are.each_gone name named book here changes row found is number.0 number.1 are.within;
        different = numbers_differ rows o built.gives shaped are.each_node are.each_gone name named book here changes row found is number.0 number.1 are.different;
        last = (sound_resource rows o built.gives shaped are.each_node are.each_entry are.lists (path.Book name) named (book_resource book) there).number;
      })

  few_books : len o.books ≤ MAX_BOOKS
  few_books =
      let built_of : len o.books ≤ length (filter (λ row. is_of_kind 4 (node_shown row)) rows.nodes) = built.few_books in
      let shown = count_shown node_shown (is_of_kind 4) rows.nodes in
      let few = are.books in
      omega (arith, built_of, shown, few)

  -- ---- members

  abbrev pair_shown : Row → Row
  pair_shown row = member_group row ∷ member_member row ∷ []

  abbrev group_key : Value → Key
  group_key v = (unwrap_or (number_at (whole_nodes rows) (unwrap_or (text_in v) [])) (pos 0), pos 0)

  member_row : (x : Row) → Has rows.members x → IsMemberRow (whole_nodes rows) (pair_shown x)
  member_row x there = all_has (IsMemberRow (whole_nodes rows)) (pairs_of rows) (pair_shown x) are.each_member (has_map pair_shown rows.members x there)

  -- a text with which a column passes is the one that it has
  one_of_text : (place : ℕ) (x : Row) (text other : List ℕ) → column x place ≡ Text text → has place (Text other) x ≡ true → text ≡ other
  one_of_text place x text other is passes = is_same text other (sym (has_text place x text other is) ∙ passes)

  sound_members : (group : List ℕ) → set.len (members_of o.pairs group) ≤ MAX_MEMBERS
  sound_members group =
      let pairs = built.few_members group in
      let counted = count_keys pair_shown (λ (row : Row). group_key (shown_group row)) (same_key (group_key (Text group))) (has member_group_place (Text group)) rows.members (λ x there passes.
      let it = member_row x there in
      same_keys (group_key (Text group)) (group_key (member_group x)) (ap group_key (sym (it.group_is ∙ ap Text (one_of_text 1 x it.group group it.group_is passes))))) in
      let most = at_most MAX_MEMBERS (group_keys (whole_nodes rows) (pairs_of rows)) are.groups (group_key (Text group)) in
      omega (arith, pairs, counted, most)

  sound_pair : (pair : Membership) → set.contains o.pairs pair ≡ true → IsSoundPair o pair
  sound_pair pair there = by_option (find (is_member pair) rows.members)
      (λ none. absurd (true≢false (sym (built.gives.members pair ∙ there) ∙ ap is_some none)))
      (λ x found.
      let passes = found_has (is_member pair) rows.members x found in
      let both = and_parts _ _ passes.1 in
      let it = member_row x passes.0 in
      let group = one_of_text 1 x it.group pair.group it.group_is both.0 in
      let member = one_of_text 2 x it.member pair.member it.member_is both.1 in
      record { group = subst (IsMappedGroup o) group (mapped_group rows are.each_node o built.gives it.group it.group_there); member = subst (IsMapped o) member (mapped rows are.each_node o built.gives it.member it.member_there) })

  -- ---- all

  sound_epoch : o.epoch ≤ LAST_NUMBER
  sound_epoch =
      let (i, meta) = built.gives.meta in
      let it = are.meta_rows in
      let shown = sym (ap (map (λ row. meta_version row ∷ meta_epoch row ∷ [])) meta) ∙ it.rows in
      subst (λ n. n ≤ LAST_NUMBER) (pair_epoch o.epoch it.epoch shown) it.last

  pub built_is_sound : IsSound o
  built_is_sound = record {
    root = properties path.Root tt kind.Root 0 o.root refl;
    people = properties path.People tt kind.Home 0 o.people refl;
    groups_home = properties path.Groups tt kind.Home 0 o.groups_home refl;
    books_home = properties path.Books tt kind.Home 0 o.books_home refl;
    persons = λ name its at.
        let named = built.persons name (λ none. some_apart (sym at ∙ none)) in
        (named, properties (path.Person name) named kind.Person 0 its (ap (option_map (properties_resource kind.Person 0)) at));
    groups = λ name its at.
        let named = built.groups name (λ none. some_apart (sym at ∙ none)) in
        (named, properties (path.Group name) named kind.Group 0 its (ap (option_map (properties_resource kind.Group 0)) at));
    books = λ name book at.
        let named = built.books name (λ none. some_apart (sym at ∙ none)) in
        (named, sound_book name book named at);
    few = few_books;
    pairs = sound_pair;
    members = sound_members;
    epoch = sound_epoch;
  }

-- an Office that is built of the rows of a store is sound, where they are those of an Office
pub sound_of_rows : (db : Database) → IsBook db → (o : Office) → IsBuiltOf (rows_of db.trees) o
    → AreOfficeRows (whole_nodes (rows_of db.trees)) (entries_shown (rows_of db.trees)) (pairs_of (rows_of db.trees)) (gone_shown (rows_of db.trees)) (meta_shown (rows_of db.trees)) → IsSound o
sound_of_rows db book o built are = built_is_sound (rows_of db.trees) o (book.rising node_table (inl refl)) built are
