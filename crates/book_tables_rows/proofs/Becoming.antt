-- What a statement makes of the rows.
use Rattle.book_tables_rows.proofs.Common.{and-true, ◌≡◌, inl, inr, ℕ, ℤ, pos, Bool, true, false, ◌&&◌, List, [], ◌∷◌, ◌++◌, map, filter, find, length, nat_lt, Option, Some, None, Ok, refl, sym, ap, subst, ◌∙◌, arith, IsTrue, option_to_list, IsPermutation, IsPermutation-map, Value, Null, Int, Text, Row, Term, lit, col, overlay, Update, Delete, Edit, edit_of, next_rowid, id_in, Applies, put_all, Chosen, Given, Trees, rowid, without_rowid, Database, IsDatabase, understood, State, ExecutesInside, IsPlain, command_of, one_step, one_permutation, ids_of, works, cast_row, without_all, taken_by, Has, all_has, Enforced, is_of, is_int, IsShaped, update_where, delete_where, gone_book_place, node_kind, node_label, node_owner, node_parent, node_path, node_text, book_schema, node_table, gone_table, rows_of, has, IsBook, is_at, is_mapped, or_null, Becomes}
use Rattle.std.proofs.Common.{◌≢◌, is_some}
use Rattle.std.proofs.lemmas.List.Sorted.{length_permutation}
use Rattle.std.proofs.lemmas.Bool.{cases_eq}
use Rattle.sqlite.specs.Edit.{edited}
use Rattle.sqlite.specs.Kind.TheVariants as kinds
use Rattle.sqlite_rules.specs.Action.{Writes as EditWrites}
use Rattle.sqlite_schema.specs.Names.{same_name}
use Rattle.sqlite_tied.specs.Compute.{everything}
use Rattle.sqlite_trees.specs.declared.store.Shape.TheVariants.{Table as TableShape}
use Rattle.sqlite_trees.proofs.TreeLemmas.{IsShaped-put_row, IsShaped-filter}
use Rattle.book_tables_rows.specs.Columns.{gone_name_place}
use Rattle.book_tables_rows.specs.Texts as text
use Rattle.book_tables_rows.specs.Writes as writes
use Rattle.book_tables_rows.specs.Writes.{is_gone, with_number, row_with_text}
use Rattle.book_tables_rows.proofs.Meanings.{equals, set_number_is, set_number_plain, set_text_is, set_text_plain, delete_gone_name_is, delete_gone_name_plain}
use Rattle.book_tables_rows.proofs.Once.{filter_finds}
use Rattle.book_tables_rows.proofs.Keys.{path_once}
use Rattle.book_tables_rows.proofs.Typing.{cast_integer, cast_text, TypedNode, typed_node}
use Rattle.book_tables_rows.proofs.Shapes.{key, int_of, put_next, updates_one, deletes_each}
use Rattle.book_tables_rows.proofs.Statements.{Wrote, inserts, updates, deletes, passes, shown_by, simple, answers, map-map}
use Rattle.book_tables_rows.specs.Schema.{ace2_tree, reach_tree}

-- ---- the other tables stay

pub as_book : (d : Database) → IsBook d → IsBook (record { schema = book_schema; trees = d.trees })
as_book d book = record { schema = refl; rules = subst (λ k. IsDatabase (record { schema = k; trees = d.trees })) book.schema book.rules; rising = book.rising; former = book.former }

-- a book stays one
pub book_after : (old : Trees) (new : Database) (edit : Edit) → IsBook (record { schema = book_schema; trees = old }) → Wrote old edit new → Applies book_schema Enforced old edit new.trees
    → IsShaped TableShape (new.trees edit.table.tree) → edit.table.tree ≢ 2 → IsBook new
book_after old new edit book w applied shaped apart = record {
  schema = w.schema;
  rules = w.sound;
  rising = λ t there. elim (cases_eq t.tree edit.table.tree) [
    | inl is ↦ subst (λ k. IsShaped TableShape (new.trees k)) (sym is) shaped
    | inr differs ↦ subst (IsShaped TableShape) (sym (all_has (λ u. u.tree ≢ edit.table.tree → new.trees u.tree ≡ old u.tree) book_schema.tables t applied.tables there differs)) (book.rising t there)
  ];
  former = applied.tables.1.0 (λ is. apart (sym is)) ∙ book.former;
}

module _ (old new : Trees) (edit : Edit) (a : Applies book_schema Enforced old edit new) where
  pub nodes_changed : edit.table.tree ≡ 0 → rows_of new ≡ record (rows_of old) { nodes = new 0 }
  nodes_changed at =
      let entries = a.tables.1.1.1.1.1.0 (λ same. omega (arith, same, at)) in
      let members = a.tables.1.1.0 (λ same. omega (arith, same, at)) in
      let gone = a.tables.1.1.1.0 (λ same. omega (arith, same, at)) in
      let meta = a.tables.1.1.1.1.0 (λ same. omega (arith, same, at)) in
      let reach = a.tables.1.1.1.1.1.1.0 (λ same. omega (arith, same, at)) in
      λ i. record { nodes = new 0; entries = entries i; members = members i; gone = gone i; meta = meta i; reach = reach i }

  pub entries_changed : edit.table.tree ≡ ace2_tree → rows_of new ≡ record (rows_of old) { entries = new ace2_tree }
  entries_changed at =
      let nodes = a.tables.0 (λ same. omega (arith, same, at)) in
      let members = a.tables.1.1.0 (λ same. omega (arith, same, at)) in
      let gone = a.tables.1.1.1.0 (λ same. omega (arith, same, at)) in
      let meta = a.tables.1.1.1.1.0 (λ same. omega (arith, same, at)) in
      let reach = a.tables.1.1.1.1.1.1.0 (λ same. omega (arith, same, at)) in
      λ i. record { nodes = nodes i; entries = new ace2_tree; members = members i; gone = gone i; meta = meta i; reach = reach i }

  pub members_changed : edit.table.tree ≡ 4 → rows_of new ≡ record (rows_of old) { members = new 4 }
  members_changed at =
      let nodes = a.tables.0 (λ same. omega (arith, same, at)) in
      let entries = a.tables.1.1.1.1.1.0 (λ same. omega (arith, same, at)) in
      let gone = a.tables.1.1.1.0 (λ same. omega (arith, same, at)) in
      let meta = a.tables.1.1.1.1.0 (λ same. omega (arith, same, at)) in
      let reach = a.tables.1.1.1.1.1.1.0 (λ same. omega (arith, same, at)) in
      λ i. record { nodes = nodes i; entries = entries i; members = new 4; gone = gone i; meta = meta i; reach = reach i }

  pub meta_changed : edit.table.tree ≡ 8 → rows_of new ≡ record (rows_of old) { meta = new 8 }
  meta_changed at =
      let nodes = a.tables.0 (λ same. omega (arith, same, at)) in
      let entries = a.tables.1.1.1.1.1.0 (λ same. omega (arith, same, at)) in
      let members = a.tables.1.1.0 (λ same. omega (arith, same, at)) in
      let gone = a.tables.1.1.1.0 (λ same. omega (arith, same, at)) in
      let reach = a.tables.1.1.1.1.1.1.0 (λ same. omega (arith, same, at)) in
      λ i. record { nodes = nodes i; entries = entries i; members = members i; gone = gone i; meta = new 8; reach = reach i }

  pub gone_changed : edit.table.tree ≡ 6 → rows_of new ≡ record (rows_of old) { gone = new 6 }
  gone_changed at =
      let nodes = a.tables.0 (λ same. omega (arith, same, at)) in
      let entries = a.tables.1.1.1.1.1.0 (λ same. omega (arith, same, at)) in
      let members = a.tables.1.1.0 (λ same. omega (arith, same, at)) in
      let meta = a.tables.1.1.1.1.0 (λ same. omega (arith, same, at)) in
      let reach = a.tables.1.1.1.1.1.1.0 (λ same. omega (arith, same, at)) in
      λ i. record { nodes = nodes i; entries = entries i; members = members i; gone = new 6; meta = meta i; reach = reach i }

  pub reach_changed : edit.table.tree ≡ reach_tree → rows_of new ≡ record (rows_of old) { reach = new reach_tree }
  reach_changed at =
      let nodes = a.tables.0 (λ same. omega (arith, same, at)) in
      let entries = a.tables.1.1.1.1.1.0 (λ same. omega (arith, same, at)) in
      let members = a.tables.1.1.0 (λ same. omega (arith, same, at)) in
      let gone = a.tables.1.1.1.0 (λ same. omega (arith, same, at)) in
      let meta = a.tables.1.1.1.1.0 (λ same. omega (arith, same, at)) in
      λ i. record { nodes = nodes i; entries = entries i; members = members i; gone = gone i; meta = meta i; reach = new reach_tree }

-- ---- which foreign keys act

-- none, where no row was written
works_none : works book_schema Enforced 0 0 [] [] ≡ []
unfolding same_name everything
works_none = refl

-- none refers to a removed name
pub works_gone : (olds : List Row) → works book_schema Enforced 0 6 olds [] ≡ []
unfolding same_name everything
works_gone olds = refl

-- nor to an entry
pub works_entries : (olds : List Row) → works book_schema Enforced 0 ace2_tree olds [] ≡ []
unfolding same_name everything
works_entries olds = refl

-- ---- a permutation of at most one

pub empty_permutation : {X : Type 0} (ys : List X) → IsPermutation [] ys → ys ≡ []
empty_permutation [] h = refl
empty_permutation (y ∷ ys) h = absurd (omega (arith, length_permutation [] (y ∷ ys) h))

pub one_or_none : {X : Type 0} (f : Row → X) (found : Option Row) (ys : List X) → IsPermutation (map f (option_to_list found)) ys → ys ≡ map f (option_to_list found)
one_or_none f None ys h = empty_permutation ys h
one_or_none f (Some r) ys h = one_permutation (f r) ys h

found_there : (p : Row → Bool) (rows : List Row) (r : Row) → find p rows ≡ Some r → Has rows r
found_there p [] r h = absurd cc
found_there p (x ∷ rows) r h = go (found_there p rows r) (p x) refl
  where
    go : (find p rows ≡ Some r → Has rows r) → (b : Bool) → p x ≡ b → Has (x ∷ rows) r
    go more true e = inl (let some = rw e at h in cc)
    go more false e = inr (more (rw e at h))

-- ---- INSERT

module _ (old new : State) (path label : List ℕ) (parent owner words : Value) (kind number : ℕ) (p : is_of kinds.Integer parent ≡ true) (o : is_of kinds.Text owner ≡ true) (t : is_of kinds.Text words ≡ true) where
  abbrev db : Trees
  db = old.now.trees

  abbrev source : Row
  source = Null ∷ Null ∷ Text path ∷ parent ∷ Int (pos kind) ∷ owner ∷ Text label ∷ words ∷ Int (pos number) ∷ []

  abbrev new_row : Row
  new_row = Int (next_rowid (db 0)) ∷ Null ∷ Text path ∷ parent ∷ Int (pos kind) ∷ owner ∷ Text label ∷ words ∷ Int (pos number) ∷ []

  abbrev edit : Edit
  edit = edit_of db node_table [] Chosen 0 (source ∷ [])

  news : edit.news ≡ new_row ∷ []
  news = rw (cast_integer Null refl, cast_integer parent p, cast_integer (Int (pos kind)) refl, cast_text owner o, cast_text words t, cast_integer (Int (pos number)) refl) refl

  pub becomes_inserted : (count : ℕ) → ExecutesInside 0 text.insert_node (Text path ∷ parent ∷ Int (pos kind) ∷ owner ∷ Text label ∷ words ∷ Int (pos number) ∷ []) old new (Ok count)
      → Becomes old new (λ rows. record rows { nodes = rows.nodes ++ (Int (next_rowid rows.nodes) ∷ Null ∷ Text path ∷ parent ∷ Int (pos kind) ∷ owner ∷ Text label ∷ words ∷ Int (pos number) ∷ []) ∷ [] })
  becomes_inserted count h = record {
    inside = h.1.mode;
    was_open = h.1.was_open;
    is_open = h.1.is_open;
    rows = λ book.
        let shaped = book.rising node_table (inl refl) in
        let w = inserts old new book.schema (Text path) parent (Int (pos kind)) owner (Text label) words (Int (pos number)) count h.0 in
        let applied = one_step book_schema Enforced db new.now.trees edit refl w.written in
        let rows : new.now.trees 0 ≡ db 0 ++ new_row ∷ [] = applied.rows ∙ ap (put_all (db 0)) news ∙ put_next (db 0) new_row shaped refl in
        let shaped_after = subst (IsShaped TableShape) (sym (applied.rows ∙ ap (put_all (db 0)) news)) (IsShaped-put_row new_row (db 0) refl shaped) in
        (book_after db new.now edit (as_book old.now book) w applied shaped_after (λ e. omega (arith, e)), nodes_changed db new.now.trees edit applied refl ∙ ap (λ ns. record (rows_of db) { nodes = ns }) rows);
  }

-- ---- UPDATE of the node at a path

module _ (old new : State) (sql path : List ℕ) (more : Row) (columns : List Term) (change : Row → Row)
    (is : command_of (understood book_schema sql) ≡ Update 0 (record { lets = []; body = simple 0 (equals 2 0 ∷ []) (col 1 0 ∷ columns) })) (plain : IsPlain (understood book_schema sql))
    (shows : (r : Row) → shown_by (Text path ∷ more) columns r ≡ change r) (same_id : (r : Row) → rowid (change r) ≡ rowid r)
    (cast : (r : Row) → IsTrue (is_int (rowid r)) → TypedNode r → cast_row node_table (change r) ≡ change r) where
  abbrev params : Row
  params = Text path ∷ more

  same_test : (r : Row) → passes params (equals 2 0 ∷ []) r ≡ is_at path r
  same_test r = and-true (is_at path r)

  abbrev shown : Option Row → List Row
  shown found = map (shown_by params (col 1 0 ∷ columns)) (option_to_list found)

  abbrev edit_for : Trees → Option Row → Edit
  edit_for db found = edit_of db node_table (ids_of (shown found)) Given 1 (shown found)

  abbrev put_back : Trees → Option Row → List Row
  put_back db found = put_all (without_all (db 0) (ids_of (option_to_list found))) (map change (option_to_list found))

  -- no foreign key acts
  applies : (db next : Trees) (found : Option Row) → EditWrites book_schema Enforced db (edit_for db found) (Ok next) → Applies book_schema Enforced db (edit_for db found) next
  applies trees next None h = one_step book_schema Enforced trees next (edit_for trees None) works_none h
  applies trees next (Some r) h = one_step book_schema Enforced trees next (edit_for trees (Some r)) refl h

  makes : (db : Trees) → IsDatabase (record { schema = book_schema; trees = db }) → IsShaped TableShape (db 0) → (found : Option Row) → ((r : Row) → found ≡ Some r → Has (db 0) r) → edited db (edit_for db found) ≡ put_back db found
  makes trees rules shaped None there = refl
  makes trees rules shaped (Some r) there =
      let is_cast = ap (cast_row node_table) (shows r) ∙ cast r (all_has _ (trees 0) r shaped.1 (there r refl)) (typed_node trees r rules (there r refl)) in
      ap (λ x. put_all (without_all (trees 0) (id_in (rowid r) ∷ [])) (x ∷ [])) is_cast

  stays_shaped : (rows : List Row) → IsShaped TableShape rows → (found : Option Row) → ((r : Row) → found ≡ Some r → Has rows r)
      → IsShaped TableShape (put_all (without_all rows (ids_of (option_to_list found))) (map change (option_to_list found)))
  stays_shaped rows shaped None there = shaped
  stays_shaped rows shaped (Some r) there =
      IsShaped-put_row (change r) (without_rowid (id_in (rowid r)) rows) (ap is_int (same_id r) ∙ all_has _ rows r shaped.1 (there r refl)) (IsShaped-filter TableShape _ rows shaped)

  counted : (db : Trees) (found : Option Row) → length (edit_for db found).news ≡ length (option_to_list found)
  counted trees None = refl
  counted trees (Some r) = refl

  some_counts : (found : Option Row) → nat_lt 0 (length (option_to_list found)) ≡ is_some found
  some_counts None = refl
  some_counts (Some r) = refl

  -- the statement writes the row at the path, if there is one, and counts it
  picks : (count : ℕ) → ExecutesInside 0 sql params old new (Ok count) → IsBook old.now
      → Wrote old.now.trees (edit_for old.now.trees (find (is_at path) (old.now.trees 0))) new.now × (count ≡ length (option_to_list (find (is_at path) (old.now.trees 0))))
  picks count h book =
      let db = old.now.trees in
      let rules = subst (λ k. IsDatabase (record { schema = k; trees = db })) book.schema book.rules in
      let shaped = book.rising node_table (inl refl) in
      let found = find (is_at path) (db 0) in
      let once = filter_finds (is_at path) (db 0) (path_once path db rules shaped) in
      let it = updates old new book.schema sql params 0 node_table refl (simple 0 (equals 2 0 ∷ []) (col 1 0 ∷ columns)) is plain count h.0 in
      let picked : filter (passes params (equals 2 0 ∷ [])) (db 0) ≡ option_to_list found = (λ i. filter (λ r. same_test r i) (db 0)) ∙ once in
      let answer = answers 0 (equals 2 0 ∷ []) (col 1 0 ∷ columns) (overlay db []) params it.0 it.1 in
      let given : it.0 ≡ shown found =
      one_or_none (shown_by params (col 1 0 ∷ columns)) found it.0 (subst (λ xs. IsPermutation (map (shown_by params (col 1 0 ∷ columns)) xs) it.0) picked answer) in (
        subst (λ all. Wrote db (edit_of db node_table (ids_of all) Given 1 all) new.now) given it.2,
        it.3 ∙ ap (λ all. length (edit_of db node_table (ids_of all) Given 1 all).news) given ∙ counted db found,
      )

  pub becomes_updated : (count : ℕ) → ExecutesInside 0 sql params old new (Ok count)
      → Becomes old new (λ rows. record rows { nodes = update_where (is_at path) change rows.nodes })
  becomes_updated count h = record {
    inside = h.1.mode;
    was_open = h.1.was_open;
    is_open = h.1.is_open;
    rows = λ book.
        let db = old.now.trees in
        let rules = subst (λ k. IsDatabase (record { schema = k; trees = db })) book.schema book.rules in
        let shaped = book.rising node_table (inl refl) in
        let found = find (is_at path) (db 0) in
        let there = found_there (is_at path) (db 0) in
        let once = filter_finds (is_at path) (db 0) (path_once path db rules shaped) in
        let w = (picks count h book).0 in
        let applied = applies db new.now.trees found w.written in
        let made : new.now.trees 0 ≡ put_back db found = applied.rows ∙ makes db rules shaped found there in
        let shaped_after = subst (IsShaped TableShape) (sym made) (stays_shaped (db 0) shaped found there) in
        let listed : new.now.trees 0 ≡ update_where (is_at path) change (db 0) = made ∙ updates_one (is_at path) change same_id (db 0) shaped found once there in
        (book_after db new.now (edit_for db found) (as_book old.now book) w applied shaped_after (λ e. omega (arith, e)), nodes_changed db new.now.trees (edit_for db found) applied refl ∙ ap (λ ns. record (rows_of db) { nodes = ns }) listed);
  }

  -- whether a row was counted tells whether one is at the path
  pub tells_mapped : (count : ℕ) → ExecutesInside 0 sql params old new (Ok count) → IsBook old.now → nat_lt 0 count ≡ is_mapped path (rows_of old.now.trees)
  tells_mapped count h book = ap (nat_lt 0) ((picks count h book).1) ∙ some_counts (find (is_at path) (old.now.trees 0))

-- ---- the two updates of one node

pub becomes_numbered : (old new : State) (path : List ℕ) (number count : ℕ) → ExecutesInside 0 text.set_number (Text path ∷ Int (pos number) ∷ []) old new (Ok count) → Becomes old new (writes.set_number path number)
becomes_numbered old new path number count h =
    becomes_updated old new text.set_number path (Int (pos number) ∷ []) (col 1 0 ∷ lit Null ∷ col 1 2 ∷ col 1 3 ∷ col 1 4 ∷ col 1 5 ∷ col 1 6 ∷ col 1 7 ∷ col 0 1 ∷ []) (with_number number)
    set_number_is set_number_plain (λ r. refl) (λ r. refl) (numbered_cast number) count h
  where
    numbered_cast : (number : ℕ) (r : Row) → IsTrue (is_int (rowid r)) → TypedNode r → cast_row node_table (with_number number r) ≡ with_number number r
    numbered_cast number r int t =
        let id = int_of (rowid r) int in
        rw (id.1, cast_integer (Int id.0) refl, cast_integer Null refl, cast_text (node_path r) t.path, cast_integer (node_parent r) t.parent, cast_integer (node_kind r) t.kind, cast_text (node_owner r) t.owner, cast_text (node_label r) t.label, cast_text (node_text r) t.text, cast_integer (Int (pos number)) refl) refl

rewritten_cast : (words : List ℕ) (number : ℕ) (r : Row) → IsTrue (is_int (rowid r)) → TypedNode r → cast_row node_table (row_with_text words number r) ≡ row_with_text words number r
rewritten_cast words number r int t =
    let id = int_of (rowid r) int in
    rw (id.1, cast_integer (Int id.0) refl, cast_integer Null refl, cast_text (node_path r) t.path, cast_integer (node_parent r) t.parent, cast_integer (node_kind r) t.kind, cast_text (node_owner r) t.owner, cast_text (node_label r) t.label, cast_integer (Int (pos number)) refl) refl

pub becomes_rewritten : (old new : State) (path words : List ℕ) (number count : ℕ) → ExecutesInside 0 text.set_text (Text path ∷ Text words ∷ Int (pos number) ∷ []) old new (Ok count) → Becomes old new (writes.set_text path words number)
becomes_rewritten old new path words number count h =
    becomes_updated old new text.set_text path (Text words ∷ Int (pos number) ∷ []) (col 1 0 ∷ lit Null ∷ col 1 2 ∷ col 1 3 ∷ col 1 4 ∷ col 1 5 ∷ col 1 6 ∷ col 0 1 ∷ col 0 2 ∷ []) (row_with_text words number)
    set_text_is set_text_plain (λ r. refl) (λ r. refl) (rewritten_cast words number) count h

pub tells_rewritten : (old new : State) (path words : List ℕ) (number count : ℕ) → ExecutesInside 0 text.set_text (Text path ∷ Text words ∷ Int (pos number) ∷ []) old new (Ok count) → IsBook old.now → nat_lt 0 count ≡ is_mapped path (rows_of old.now.trees)
tells_rewritten old new path words number count h =
    tells_mapped old new text.set_text path (Text words ∷ Int (pos number) ∷ []) (col 1 0 ∷ lit Null ∷ col 1 2 ∷ col 1 3 ∷ col 1 4 ∷ col 1 5 ∷ col 1 6 ∷ col 0 1 ∷ col 0 2 ∷ []) (row_with_text words number)
    set_text_is set_text_plain (λ r. refl) (λ r. refl) (rewritten_cast words number) count h

-- ---- DELETE of removed names

module _ (old new : State) (sql : List ℕ) (params : Row) (terms : List Term) (p : Row → Bool)
    (is : command_of (understood book_schema sql) ≡ Delete 3 (record { lets = []; body = simple 6 terms (col 1 0 ∷ []) })) (plain : IsPlain (understood book_schema sql))
    (tests : (r : Row) → passes params terms r ≡ p r) where
  pub becomes_ungone : (count : ℕ) → ExecutesInside 0 sql params old new (Ok count) → Becomes old new (λ rows. record rows { gone = delete_where p rows.gone })
  becomes_ungone count h = record {
    inside = h.1.mode;
    was_open = h.1.was_open;
    is_open = h.1.is_open;
    rows = λ book.
        let db = old.now.trees in
        let shaped = book.rising gone_table (inr (inr (inr (inl refl)))) in
        let it = deletes old new book.schema sql params 3 gone_table refl (simple 6 terms (col 1 0 ∷ [])) is plain count h.0 in
        let answer = answers 6 terms (col 1 0 ∷ []) (overlay db []) params it.0 it.1 in
        let ids : IsPermutation (map key (filter p (db 6))) (ids_of it.0) =
        subst (λ xs. IsPermutation xs (ids_of it.0)) (map-map (λ r. id_in (rowid r)) (shown_by params (col 1 0 ∷ [])) (filter (passes params terms) (db 6)) ∙ (λ i. map key (filter (λ r. tests r i) (db 6))))
        (IsPermutation-map (λ r. id_in (rowid r)) _ _ answer) in
        let edit = edit_of db gone_table (ids_of it.0) Given 0 [] in
        let applied = one_step book_schema Enforced db new.now.trees edit (works_gone (taken_by db edit)) it.2.written in
        let listed : new.now.trees 6 ≡ delete_where p (db 6) = applied.rows ∙ deletes_each p (db 6) (ids_of it.0) shaped ids in
        let shaped_after = subst (IsShaped TableShape) (sym listed) (IsShaped-filter TableShape _ (db 6) shaped) in
        (book_after db new.now edit (as_book old.now book) it.2 applied shaped_after (λ e. omega (arith, e)), gone_changed db new.now.trees edit applied refl ∙ ap (λ g. record (rows_of db) { gone = g }) listed);
  }

pub becomes_unremoved : (old new : State) (id : ℤ) (name : List ℕ) (count : ℕ) → ExecutesInside 0 text.delete_gone_name (Int id ∷ Text name ∷ []) old new (Ok count) → Becomes old new (writes.delete_gone_name (Int id) name)
becomes_unremoved old new id name count h =
    becomes_ungone old new text.delete_gone_name (Int id ∷ Text name ∷ []) (equals 1 0 ∷ equals 2 1 ∷ []) (is_gone (Int id) name) delete_gone_name_is delete_gone_name_plain
    (λ r. ap (λ b. has gone_book_place (Int id) r && b) (and-true (has gone_name_place (Text name) r))) count h

pub owner_typed : (owner : Option (List ℕ)) → is_of kinds.Text (or_null owner) ≡ true
owner_typed None = refl
owner_typed (Some o) = refl
