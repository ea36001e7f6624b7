-- What a read of all nodes without their texts shows, and a read of one text.
use Rattle.book_tables_opening.proofs.Common.{◌≡◌, inl, false, cond, List, [], ◌∷◌, codes, map, refl, sym, ap, subst, ◌∙◌, Ordering, is_eq, AllByRecursion, ℤ, Null, Int, Row, State, rowid, has, node_text, node_shown, book_schema}
use Rattle.std.proofs.Common.{Less, is_gt}
use Rattle.sqlite.specs.Command.TheVariants.{Select}
use Rattle.sqlite.specs.Listing.{understood, reads_listing}
use Rattle.sqlite.specs.Order.{value_cmp}
use Rattle.sqlite.specs.Program.{overlay}
use Rattle.sqlite.specs.State.{Shown}
use Rattle.sqlite.specs.Term.{Term, col, lit}
use Rattle.sqlite.proofs.Callers.{IsPlain, command_of, reads_as}
use Rattle.sqlite_tied.specs.Compute.{everything}
use Rattle.sqlite_trees.specs.Tree.{IsAscending}
use Rattle.sqlite_keyed.specs.Lists.{insert_sorted, sort_by}
use Rattle.sqlite_keyed.proofs.ListLemmas.{ascending_weaker}
use Rattle.book_tables_rows.specs.Columns.{rowid_place}
use Rattle.book_tables_rows.specs.Lists.{ShowsRows}
use Rattle.book_tables_rows.specs.Schema.{node_table}
use Rattle.book_tables_rows.proofs.Common.{and-true}
use Rattle.book_tables_rows.proofs.Meanings.{equals}
use Rattle.book_tables_rows.proofs.Keeping.{shown_open}
use Rattle.book_tables_rows.proofs.Ordering.{ordered_by, answers_in_order}
use Rattle.book_tables_rows.proofs.Statements.{map-map, shown_by, simple}
use Rattle.book_tables_rows.proofs.Reading.{all_pass, picks}
use Rattle.book_tables_opening.specs.WholeNodes.{list_textless_nodes, read_text, ShowsTextlessNodes, texts_shown, without_text}

-- ---- the meaning of the text

abbrev textless_columns : List Term
textless_columns = col 1 0 ∷ col 1 2 ∷ col 1 3 ∷ col 1 4 ∷ col 1 5 ∷ col 1 6 ∷ lit Null ∷ col 1 8 ∷ []

list_textless_nodes_is : command_of (understood book_schema list_textless_nodes) ≡ Select (record { lets = []; body = ordered_by 0 [] textless_columns 0 })
    (codes "id" ∷ codes "path" ∷ codes "parent" ∷ codes "kind" ∷ codes "owner" ∷ codes "label" ∷ codes "NULL" ∷ codes "number" ∷ [])
unfolding understood everything
list_textless_nodes_is = refl

pub list_textless_nodes_plain : IsPlain (understood book_schema list_textless_nodes)
unfolding understood everything
list_textless_nodes_plain = (refl, refl)

list_textless_nodes_unlisted : reads_listing book_schema list_textless_nodes ≡ false
unfolding understood everything
list_textless_nodes_unlisted = refl

-- ---- rows that rise are in order

abbrev by_number : Row → Row → Ordering
by_number a b = value_cmp (rowid a) (rowid b)

stays_first : (x : Row) (rows : List Row) → AllByRecursion (λ y. by_number x y ≡ Less) rows → insert_sorted by_number x rows ≡ x ∷ rows
stays_first x [] above = refl
stays_first x (y ∷ rows) above = ap (λ o. cond (is_gt o) (y ∷ insert_sorted by_number x rows) (x ∷ y ∷ rows)) above.0

sorted_already : (rows : List Row) → IsAscending (λ a b. by_number a b ≡ Less) rows → sort_by by_number rows ≡ rows
sorted_already [] rises = refl
sorted_already (x ∷ rows) rises = ap (insert_sorted by_number x) (sorted_already rows rises.1) ∙ stays_first x rows rises.0

pub shows_textless_nodes : (old new : State) (rows : List Row) → Shown list_textless_nodes [] old new rows → ShowsTextlessNodes old rows
shows_textless_nodes old new rows h = (
  shown_open list_textless_nodes _ old new rows h,
  λ book.
      let db = old.now.trees in
      let rising : IsAscending (λ a b. by_number a b ≡ Less) (db 0) = (book.rising node_table (inl refl)).0 in
      let apart : IsAscending (λ a b. is_eq (by_number a b) ≡ false) (db 0) =
      ascending_weaker (λ a b. by_number a b ≡ Less) (λ a b. is_eq (by_number a b) ≡ false) (λ a b less. ap is_eq less) (db 0) rising in
      let read = (reads_as list_textless_nodes [] old new book_schema book.schema _ list_textless_nodes_is list_textless_nodes_plain list_textless_nodes_unlisted rows h).answer Null in
      answers_in_order 0 [] textless_columns 0 (overlay db []) [] rows read (subst (IsAscending (λ a b. is_eq (by_number a b) ≡ false)) (sym (all_pass (db 0))) apart)
      ∙ ap (λ xs. map (shown_by [] textless_columns) (sort_by by_number xs)) (all_pass (db 0))
      ∙ ap (map (shown_by [] textless_columns)) (sorted_already (db 0) rising)
      ∙ sym (map-map without_text node_shown (db 0)),
)

-- ---- one text

read_text_is : command_of (understood book_schema read_text) ≡ Select (record { lets = []; body = simple 0 (equals 0 0 ∷ []) (col 1 7 ∷ []) }) (codes "text" ∷ [])
unfolding understood everything
read_text_is = refl

pub read_text_plain : IsPlain (understood book_schema read_text)
unfolding understood everything
read_text_plain = (refl, refl)

read_text_unlisted : reads_listing book_schema read_text ≡ false
unfolding understood everything
read_text_unlisted = refl

pub shows_text : (old new : State) (id : ℤ) (rows : List Row) → Shown read_text (Int id ∷ []) old new rows → ShowsRows old (texts_shown id) rows
shows_text old new id rows h = (
  shown_open read_text _ old new rows h,
  λ book. picks read_text _ 0 (equals 0 0 ∷ []) (col 1 7 ∷ []) read_text_is read_text_plain read_text_unlisted (Int id ∷ [])
      (has rowid_place (Int id)) (λ row. node_text row ∷ []) (λ db. refl) (λ r. and-true (has rowid_place (Int id) r)) (λ r. refl) old new rows h book,
)
