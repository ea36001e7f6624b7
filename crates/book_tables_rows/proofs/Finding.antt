-- What a look-up by path shows.
use Rattle.book_tables_rows.proofs.Common.{and-true, ◌≡◌, ℕ, List, [], ◌∷◌, map, filter, find, slice_get, Option, Some, None, option_map, refl, sym, ap, subst, ◌∙◌, inl, option_to_list, IsPermutation, Null, Text, Row, IsDatabase, understood, overlay, Term, col, State, Shown, IsPlain, reads_as, book_schema, node_table, IsBook, is_at, Finds, told_of, Looks}
use Rattle.book_tables_rows.specs.Texts as text
use Rattle.book_tables_rows.specs.Nodes.{told_shown}
use Rattle.book_tables_rows.proofs.Meanings.{equals, find_is, find_plain, find_unlisted}
use Rattle.book_tables_rows.proofs.Once.{filter_finds}
use Rattle.book_tables_rows.proofs.Keys.{path_once}
use Rattle.book_tables_rows.proofs.Keeping.{shown_open, shown_mode, shown_same}
use Rattle.book_tables_rows.proofs.Statements.{passes, shown_by, answers}
use Rattle.book_tables_rows.proofs.Becoming.{one_or_none}

abbrev columns : List Term
columns = col 1 0 ∷ col 1 4 ∷ col 1 5 ∷ col 1 6 ∷ col 1 7 ∷ col 1 8 ∷ []

pub finds : (old new : State) (path : List ℕ) (rows : List Row) → IsBook old.now → Shown text.find_node (Text path ∷ []) old new rows
    → rows ≡ map (shown_by (Text path ∷ []) columns) (option_to_list (find (is_at path) (old.now.trees 0)))
finds old new path rows book h =
    let db = old.now.trees in
    let params : Row = Text path ∷ [] in
    let rules = subst (λ k. IsDatabase (record { schema = k; trees = db })) book.schema book.rules in
    let shaped = book.rising node_table (inl refl) in
    let found = find (is_at path) (db 0) in
    let read = (reads_as text.find_node params old new book_schema book.schema _ find_is find_plain find_unlisted rows h).answer Null in
    let picked : filter (passes params (equals 2 0 ∷ [])) (db 0) ≡ option_to_list found =
    (λ i. filter (λ r. and-true (is_at path r) i) (db 0)) ∙ filter_finds (is_at path) (db 0) (path_once path db rules shaped) in
    one_or_none (shown_by params columns) found rows
    (subst (λ xs. IsPermutation (map (shown_by params columns) xs) rows) picked (answers 0 (equals 2 0 ∷ []) columns (overlay db []) params rows read))

first : (path : List ℕ) (found : Option Row) → option_map told_shown (slice_get (map (shown_by (Text path ∷ []) columns) (option_to_list found)) 0) ≡ option_map told_of found
first path None = refl
first path (Some r) = refl

pub shows_node : (old new : State) (path : List ℕ) (rows : List Row) → Shown text.find_node (Text path ∷ []) old new rows → Finds old path (option_map told_shown (slice_get rows 0))
shows_node old new path rows h = (
  shown_open text.find_node (Text path ∷ []) old new rows h,
  λ book.
      ap (λ all. option_map told_shown (slice_get all 0)) (finds old new path rows book h) ∙ first path (find (is_at path) (old.now.trees 0)),
)

pub looks_up : (old new : State) (path : List ℕ) (rows : List Row) → Shown text.find_node (Text path ∷ []) old new rows → Looks old new
looks_up old new path rows h = record {
  mode = shown_mode text.find_node (Text path ∷ []) old new rows h;
  same = λ book. shown_same text.find_node (Text path ∷ []) old new rows (subst (λ s. IsPlain (understood s text.find_node)) (sym book.schema) find_plain) h;
}
