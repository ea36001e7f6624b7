-- What a count of children shows.
use Rattle.book_tables_rows.proofs.Common.{and-true, ◌≡◌, ℕ, suc, pos, true, ◌&&◌, List, [], ◌∷◌, length, map, filter, find, flat_map, Option, Some, None, option_map, unwrap_or, refl, sym, ap, subst, ◌∙◌, if◌then◌else◌, option_to_list, IsPermutation, IsPermutation-map, Value, Null, Int, Text, Binary, Row, IsDatabase, overlay, Query, IsAnswer, Output, output, col, Trees, rowid, State, Shown, reads_as, equal, node_parent, book_schema, node_table, number_in, is_at, is_under}
use Rattle.std.proofs.Common.{min}
use Rattle.book_tables_rows.specs.Texts as text
use Rattle.book_tables_rows.specs.Lists.{ShowsCount, first_number}
use Rattle.book_tables_rows.proofs.Keeping.{shown_open}
use Rattle.book_tables_rows.proofs.Keys.{path_once}
use Rattle.book_tables_rows.proofs.Meanings.{with_count, equals, count_children_is, count_children_plain, count_children_unlisted}
use Rattle.book_tables_rows.proofs.Once.{filter_finds}
use Rattle.book_tables_rows.proofs.Statements.{map-map, matched}
use Rattle.book_tables_rows.proofs.Becoming.{one_or_none}

abbrev count_query : Query
count_query = record with_count { filter = equals 2 0 ∷ []; project = col 2 0 ∷ [] }

length_map : {A B : Type 0} (f : A → B) (xs : List A) → length (map f xs) ≡ length xs
length_map f [] = refl
length_map f (x ∷ xs) = ap suc (length_map f xs)

module _ (db : Trees) (path : List ℕ) where
  abbrev params : Row
  params = Text path ∷ []

  abbrev counted_for : Row → Value
  counted_for r = Int (pos (min 9223372036854775807 (length (flat_map (λ n. if equal Binary (node_parent n) (rowid r) && true then (params ∷ r ∷ n ∷ []) ∷ [] else []) (db 0)))))

  abbrev env : Row → List Row
  env r = params ∷ r ∷ (counted_for r ∷ []) ∷ []

  counts : (r : Row) → number_in (counted_for r) ≡ min 9223372036854775807 (length (filter (is_under (rowid r)) (db 0)))
  counts r = ap (min 9223372036854775807) (ap length (matched (λ n. equal Binary (node_parent n) (rowid r) && true) (λ n. params ∷ r ∷ n ∷ []) (db 0))
      ∙ length_map (λ n. params ∷ r ∷ n ∷ []) (filter (λ n. equal Binary (node_parent n) (rowid r) && true) (db 0))
      ∙ (λ i. length (filter (λ n. and-true (equal Binary (node_parent n) (rowid r)) i) (db 0))))

  pub picks_count : (rows : List Row) → IsAnswer count_query db params rows → IsPermutation (map (λ r. counted_for r ∷ []) (filter (is_at path) (db 0))) rows
  picks_count rows a =
      let passing = filter (λ r. is_at path r && true) (db 0) in
      let staged : a.staged ≡ map env passing = a.grouped ∙ matched (λ r. is_at path r && true) env (db 0) in
      let shown : map (λ (o : Output). o.1) a.kept ≡ map (λ r. counted_for r ∷ []) passing =
      ap (map (λ (o : Output). o.1)) (a.distinct ∙ ap (map (output count_query)) staged)
      ∙ map-map (λ (o : Output). o.1) (output count_query) (map env passing)
      ∙ map-map (λ e. (output count_query e).1) env passing in
      let same : IsPermutation (map (λ r. counted_for r ∷ []) passing) rows =
      subst (λ xs. IsPermutation xs rows) shown (subst (IsPermutation (map (λ (o : Output). o.1) a.kept)) (sym a.shown) (IsPermutation-map (λ (o : Output). o.1) _ _ a.same)) in
      subst (λ xs. IsPermutation (map (λ r. counted_for r ∷ []) xs) rows) (λ i. filter (λ r. and-true (is_at path r) i) (db 0)) same

  first_is : (found : Option Row) → first_number (map (λ r. counted_for r ∷ []) (option_to_list found)) ≡ unwrap_or (option_map (λ node. min 9223372036854775807 (length (filter (is_under (rowid node)) (db 0)))) found) 0
  first_is None = refl
  first_is (Some r) = counts r

pub shows_count : (old new : State) (path : List ℕ) (rows : List Row) → Shown text.count_children (Text path ∷ []) old new rows → ShowsCount old path (first_number rows)
shows_count old new path rows h = (
  shown_open text.count_children _ old new rows h,
  λ book.
      let db = old.now.trees in
      let rules = subst (λ k. IsDatabase (record { schema = k; trees = db })) book.schema book.rules in
      let shaped = book.rising node_table (Rattle.std.proofs.Common.inl refl) in
      let found = find (is_at path) (db 0) in
      let read = (reads_as text.count_children (Text path ∷ []) old new book_schema book.schema _ count_children_is count_children_plain count_children_unlisted rows h).answer Null in
      let answer : IsPermutation (map (λ r. counted_for db path r ∷ []) (filter (is_at path) (db 0))) rows = picks_count (overlay db []) path rows read in
      let picked = filter_finds (is_at path) (db 0) (path_once path db rules shaped) in
      let given : rows ≡ map (λ r. counted_for db path r ∷ []) (option_to_list found) =
      one_or_none (λ r. counted_for db path r ∷ []) found rows (subst (λ xs. IsPermutation (map (λ r. counted_for db path r ∷ []) xs) rows) picked answer) in
      ap first_number given ∙ first_is db path found,
)
