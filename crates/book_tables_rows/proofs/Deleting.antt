-- What the DELETEs of a book's rows leave.
use Rattle.book_tables_rows.proofs.Common.{and-true, ◌≡◌, inl, inr, ℕ, ℤ, Bool, List, [], ◌∷◌, map, filter, slice_get, Some, Ok, refl, sym, ap, subst, ◌∙◌, arith, IsPermutation, IsPermutation-map, Int, Row, Term, col, Query, IsAnswer, overlay, Delete, Edit, edit_of, id_in, Applies, Given, Table, Trees, rowid, understood, State, Executes, ExecutesInside, IsPlain, command_of, one_step, ids_of, taken_by, Has, Enforced, IsShaped, delete_where, ace_node_place, gone_book_place, rowid_place, book_schema, node_table, gone_table, rows_of, has, IsBook, AreFree, is_under, Becomes, BecomesIf}
use Rattle.std.proofs.Common.{◌≢◌}
use Rattle.sqlite_rules.specs.Action.{Writes as EditWrites}
use Rattle.sqlite_trees.specs.declared.store.Shape.TheVariants.{Table as TableShape}
use Rattle.sqlite_trees.proofs.TreeLemmas.{IsShaped-filter}
use Rattle.book_tables_rows.specs.Schema.{ace2_table, ace2_tree}
use Rattle.book_tables_rows.specs.Texts as text
use Rattle.book_tables_rows.specs.Writes as writes
use Rattle.book_tables_rows.proofs.NodeDeletes.{quiet_nodes}
use Rattle.book_tables_rows.proofs.Meanings.{equals, delete_gone_is, delete_gone_plain, delete_entries_is, delete_entries_plain, delete_children_is, delete_children_plain, delete_node_is, delete_node_plain}
use Rattle.book_tables_rows.proofs.Shapes.{key, deletes_each}
use Rattle.book_tables_rows.proofs.Statements.{deletes, passes, shown_by, simple, answers, map-map}
use Rattle.book_tables_rows.proofs.Becoming.{as_book, book_after, gone_changed, entries_changed, nodes_changed, works_gone, works_entries}

-- a DELETE takes out the rows that pass, where no foreign key acts
module _ (old new : State) (sql : List ℕ) (params : Row) (at : ℕ) (table : Table) (there : slice_get book_schema.tables at ≡ Some table) (listed : Has book_schema.tables table) (apart : table.tree ≢ 2) (q : Query) (p : Row → Bool)
    (is : command_of (understood book_schema sql) ≡ Delete at (record { lets = []; body = q })) (plain : IsPlain (understood book_schema sql))
    (picks : (rows : List Row) → IsAnswer q (overlay old.now.trees []) params rows → IsPermutation (map key (filter p (old.now.trees table.tree))) (ids_of rows))
    (quiet : (ids : List ℤ) → IsPermutation (map key (filter p (old.now.trees table.tree))) ids → (next : Trees) → EditWrites book_schema Enforced old.now.trees (edit_of old.now.trees table ids Given 0 []) (Ok next) → Applies book_schema Enforced old.now.trees (edit_of old.now.trees table ids Given 0 []) next) where
  pub deleted : (count : ℕ) → Executes sql params old new (Ok count) → IsBook old.now
      → IsBook new.now × ((edit : Edit) × (edit.table ≡ table) × Applies book_schema Enforced old.now.trees edit new.now.trees) × (new.now.trees table.tree ≡ delete_where p (old.now.trees table.tree))
  deleted count h book =
      let db = old.now.trees in
      let shaped = book.rising table listed in
      let it = deletes old new book.schema sql params at table there q is plain count h in
      let edit = edit_of db table (ids_of it.0) Given 0 [] in
      let applied = quiet (ids_of it.0) (picks it.0 it.1) new.now.trees it.2.written in
      let rows : new.now.trees table.tree ≡ delete_where p (db table.tree) = applied.rows ∙ deletes_each p (db table.tree) (ids_of it.0) shaped (picks it.0 it.1) in
      let shaped_after = subst (IsShaped TableShape) (sym rows) (IsShaped-filter TableShape _ (db table.tree) shaped) in
      (book_after db new.now edit (as_book old.now book) it.2 applied shaped_after apart, (edit, refl, applied), rows)

-- the rows that a plain query picks
pub picks_simple : (db : Trees) (tree : ℕ) (terms : List Term) (params : Row) (p : Row → Bool) → ((r : Row) → passes params terms r ≡ p r)
    → (rows : List Row) → IsAnswer (simple tree terms (col 1 0 ∷ [])) db params rows → IsPermutation (map key (filter p (db tree))) (ids_of rows)
picks_simple db tree terms params p tests rows a =
    subst (λ xs. IsPermutation xs (ids_of rows)) (map-map (λ r. id_in (rowid r)) (shown_by params (col 1 0 ∷ [])) (filter (passes params terms) (db tree)) ∙ (λ i. map key (filter (λ r. tests r i) (db tree))))
    (IsPermutation-map (λ r. id_in (rowid r)) _ _ (answers tree terms (col 1 0 ∷ []) db params rows a))

-- ---- the removed names of a book

pub becomes_forgotten : (old new : State) (id : ℤ) (count : ℕ) → ExecutesInside 0 text.delete_gone (Int id ∷ []) old new (Ok count) → Becomes old new (writes.delete_gone (Int id))
becomes_forgotten old new id count h = record {
  inside = h.1.mode;
  was_open = h.1.was_open;
  is_open = h.1.is_open;
  rows = λ book.
      let db = old.now.trees in
      let d = deleted old new text.delete_gone (Int id ∷ []) 3 gone_table refl (inr (inr (inr (inl refl)))) (λ e. omega (arith, e)) (simple 6 (equals 1 0 ∷ []) (col 1 0 ∷ [])) (has gone_book_place (Int id)) delete_gone_is delete_gone_plain
      (picks_simple (overlay db []) 6 (equals 1 0 ∷ []) (Int id ∷ []) (has gone_book_place (Int id)) (λ r. and-true (has gone_book_place (Int id) r)))
      (λ ids same next w. one_step book_schema Enforced db next _ (works_gone (taken_by db (edit_of db gone_table ids Given 0 []))) w) count h.0 book in
      (d.0, gone_changed db new.now.trees d.1.0 d.1.2 (ap (λ (t : Table). t.tree) d.1.1) ∙ ap (λ g. record (rows_of db) { gone = g }) d.2);
}

-- ---- the entries of a node

pub becomes_unlisted : (old new : State) (id : ℤ) (count : ℕ) → ExecutesInside 0 text.delete_entries (Int id ∷ []) old new (Ok count) → Becomes old new (writes.delete_entries (Int id))
becomes_unlisted old new id count h = record {
  inside = h.1.mode;
  was_open = h.1.was_open;
  is_open = h.1.is_open;
  rows = λ book.
      let db = old.now.trees in
      let d = deleted old new text.delete_entries (Int id ∷ []) 5 ace2_table refl (inr (inr (inr (inr (inr (inl refl)))))) (λ e. omega (arith, e)) (simple ace2_tree (equals 1 0 ∷ []) (col 1 0 ∷ [])) (has ace_node_place (Int id)) delete_entries_is delete_entries_plain
      (picks_simple (overlay db []) ace2_tree (equals 1 0 ∷ []) (Int id ∷ []) (has ace_node_place (Int id)) (λ r. and-true (has ace_node_place (Int id) r)))
      (λ ids same next w. one_step book_schema Enforced db next _ (works_entries (taken_by db (edit_of db ace2_table ids Given 0 []))) w) count h.0 book in
      (d.0, entries_changed db new.now.trees d.1.0 d.1.2 (ap (λ (t : Table). t.tree) d.1.1) ∙ ap (λ e. record (rows_of db) { entries = e }) d.2);
}

-- ---- nodes that no row refers to

module _ (old new : State) (sql : List ℕ) (id : ℤ) (place : ℕ)
    (is : command_of (understood book_schema sql) ≡ Delete 0 (record { lets = []; body = simple 0 (equals place 0 ∷ []) (col 1 0 ∷ []) })) (plain : IsPlain (understood book_schema sql)) where
  becomes_fewer : (count : ℕ) → ExecutesInside 0 sql (Int id ∷ []) old new (Ok count)
      → BecomesIf old new (AreFree (has place (Int id))) (λ rows. record rows { nodes = delete_where (has place (Int id)) rows.nodes })
  becomes_fewer count h = record {
    inside = h.1.mode;
    was_open = h.1.was_open;
    is_open = h.1.is_open;
    rows = λ book free.
        let db = old.now.trees in
        let d = deleted old new sql (Int id ∷ []) 0 node_table refl (inl refl) (λ e. omega (arith, e)) (simple 0 (equals place 0 ∷ []) (col 1 0 ∷ [])) (has place (Int id)) is plain
        (picks_simple (overlay db []) 0 (equals place 0 ∷ []) (Int id ∷ []) (has place (Int id)) (λ r. and-true (has place (Int id) r)))
        (quiet_nodes db (has place (Int id)) free (book.rising node_table (inl refl)) book.former) count h.0 book in
        (d.0, nodes_changed db new.now.trees d.1.0 d.1.2 (ap (λ (t : Table). t.tree) d.1.1) ∙ ap (λ ns. record (rows_of db) { nodes = ns }) d.2);
  }

pub becomes_childless : (old new : State) (id : ℤ) (count : ℕ) → ExecutesInside 0 text.delete_children (Int id ∷ []) old new (Ok count) → BecomesIf old new (AreFree (is_under (Int id))) (writes.delete_children (Int id))
becomes_childless old new id = becomes_fewer old new text.delete_children id 3 delete_children_is delete_children_plain

pub becomes_without : (old new : State) (id : ℤ) (count : ℕ) → ExecutesInside 0 text.delete_node (Int id ∷ []) old new (Ok count) → BecomesIf old new (AreFree (has rowid_place (Int id))) (writes.delete_node (Int id))
becomes_without old new id = becomes_fewer old new text.delete_node id 0 delete_node_is delete_node_plain
