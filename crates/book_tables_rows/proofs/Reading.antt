-- What the reads of several rows show.
use Rattle.book_tables_rows.proofs.Common.{and-true, ◌≡◌, ℕ, ℤ, pos, Bool, true, false, ◌&&◌, cond, List, [], ◌∷◌, map, filter, refl, sym, ap, subst, ◌∙◌, true≢false, is_eq, inl, AllByRecursion, Null, Int, Binary, IsDatabase, understood, is_null, Row, overlay, Term, col, Trees, rowid, State, Shown, IsPlain, command_of, reads_as, plain, first_key-plain, IsAscending, NotNull, equal, agree, are_present, keys_are_unique, and_parts, gone_book_place, node_label, node_number, node_owner, node_path, node_text, book_schema, node_table, has, IsBook, is_under}
use Rattle.std.proofs.Common.{IsPermutation, Option}
use Rattle.sqlite.specs.Order.{column}
use Rattle.sqlite.specs.declared.types.Value.{Value}
use Rattle.sqlite.specs.Command.TheVariants.{Select}
use Rattle.sqlite.specs.Listing.{reads_listing}
use Rattle.book_tables_rows.specs.Columns.{gone_name, gone_number, gone_number_place, member_group, member_member, node_number_place}
use Rattle.book_tables_rows.specs.Schema.{node_columns}
use Rattle.book_tables_rows.specs.Texts as text
use Rattle.book_tables_rows.specs.Lists.{AreFirst, ShowsRows, ShowsFirst, ShowsChildren, changed_number_place, removed_number_place, is_above, limit_of, pairs_of, gone_after, changed_rows, by_path}
use Rattle.book_tables_rows.proofs.Keeping.{shown_open}
use Rattle.book_tables_rows.proofs.Meanings.{equals, above, changed_columns, children_columns, list_changed_is, list_changed_plain, list_changed_unlisted, list_gone_is, list_gone_plain, list_gone_unlisted, read_members_is, read_members_plain, read_members_unlisted, list_children_is, list_children_plain, list_children_unlisted}
use Rattle.book_tables_rows.proofs.Statements.{passes, shown_by, simple, answers}
use Rattle.book_tables_rows.proofs.Entries.{all_distinct, equal_tied, tied}
use Rattle.book_tables_rows.proofs.Ordering.{answers_in_order, answers_first, count_is, first_ordered}

-- a query of one table, with no order, shows the rows that pass
module _ (sql : List ℕ) (names : List (List ℕ)) (tree : ℕ) (terms project : List Term) (is : command_of (understood book_schema sql) ≡ Select (record { lets = []; body = simple tree terms project }) names)
    (plain : IsPlain (understood book_schema sql)) (unlisted : reads_listing book_schema sql ≡ false) (params : Row) (p : Row → Bool) (shown : Row → Row)
    (own : (db : Trees) → overlay db [] tree ≡ db tree) (tests : (r : Row) → passes params terms r ≡ p r) (shows : (r : Row) → shown_by params project r ≡ shown r) where
  pub picks : (old new : State) (rows : List Row) → Shown sql params old new rows → IsBook old.now → IsPermutation (map shown (filter p (old.now.trees tree))) rows
  picks old new rows h book =
      let db = old.now.trees in
      let read = (reads_as sql params old new book_schema book.schema _ is plain unlisted rows h).answer Null in
      subst (λ xs. IsPermutation xs rows) (ap (λ xs. map (shown_by params project) (filter (passes params terms) xs)) (own db) ∙ (λ i. map (λ r. shows r i) (filter (λ r. tests r i) (db tree)))) (answers tree terms project (overlay db []) params rows read)

-- a query of one table in the order of a column, with a limit, shows the first of the rows that pass
module _ (sql : List ℕ) (names : List (List ℕ)) (tree : ℕ) (terms project : List Term) (place shown_place : ℕ)
    (is : command_of (understood book_schema sql) ≡ Select (record { lets = []; body = first_ordered tree terms project place 2 }) names)
    (plain : IsPlain (understood book_schema sql)) (unlisted : reads_listing book_schema sql ≡ false) (a b : Value) (most : Option ℕ) (p : Row → Bool) (shown : Row → Row)
    (own : (db : Trees) → overlay db [] tree ≡ db tree) where
  abbrev given : Row
  given = a ∷ b ∷ Int (limit_of most) ∷ []

  picks_first : ((r : Row) → passes given terms r ≡ p r) → ((r : Row) → shown_by given project r ≡ shown r) → ((r : Row) → column (shown_by given project r) shown_place ≡ column r place)
      → (old new : State) (rows : List Row) → Shown sql given old new rows → IsBook old.now → AreFirst most shown_place (map shown (filter p (old.now.trees tree))) rows
  picks_first tests shows tells old new rows h book =
      let db = old.now.trees in
      let read = (reads_as sql given old new book_schema book.schema _ is plain unlisted rows h).answer Null in
      subst (λ xs. AreFirst most shown_place xs rows)
      (ap (λ xs. map (shown_by given project) (filter (passes given terms) xs)) (own db) ∙ (λ i. map (λ r. shows r i) (filter (λ r. tests r i) (db tree))))
      (answers_first tree terms project place shown_place 2 (overlay db []) given tells most (count_is most) rows read)

pub shows_changed : (old new : State) (id : ℤ) (number : ℕ) (most : Option ℕ) (rows : List Row) → Shown text.list_changed (Int id ∷ Int (pos number) ∷ Int (limit_of most) ∷ []) old new rows
    → ShowsFirst old most changed_number_place (changed_rows id number) rows
shows_changed old new id number most rows h = (
  shown_open text.list_changed _ old new rows h,
  λ book. picks_first text.list_changed _ 0 (equals 3 0 ∷ above 8 1 ∷ []) changed_columns 8 changed_number_place list_changed_is list_changed_plain list_changed_unlisted (Int id) (Int (pos number)) most
      (λ row. is_under (Int id) row && is_above node_number_place number row) (λ row. rowid row ∷ node_path row ∷ node_owner row ∷ node_label row ∷ node_text row ∷ node_number row ∷ [])
      (λ db. refl) (λ r. ap (λ b. is_under (Int id) r && b) (and-true (is_above node_number_place number r))) (λ r. refl) (λ r. refl) old new rows h book,
)

pub shows_gone : (old new : State) (id : ℤ) (number : ℕ) (most : Option ℕ) (rows : List Row) → Shown text.list_gone (Int id ∷ Int (pos number) ∷ Int (limit_of most) ∷ []) old new rows
    → ShowsFirst old most removed_number_place (gone_after id number) rows
shows_gone old new id number most rows h = (
  shown_open text.list_gone _ old new rows h,
  λ book. picks_first text.list_gone _ 6 (equals 1 0 ∷ above 3 1 ∷ []) (col 1 2 ∷ col 1 3 ∷ []) 3 removed_number_place list_gone_is list_gone_plain list_gone_unlisted (Int id) (Int (pos number)) most
      (λ row. has gone_book_place (Int id) row && is_above gone_number_place number row) (λ row. gone_name row ∷ gone_number row ∷ []) (λ db. refl)
      (λ r. ap (λ b. has gone_book_place (Int id) r && b) (and-true (is_above gone_number_place number r))) (λ r. refl) (λ r. refl) old new rows h book,
)

pub all_pass : (rows : List Row) → filter (λ r. true) rows ≡ rows
all_pass [] = refl
all_pass (r ∷ rows) = ap (λ xs. r ∷ xs) (all_pass rows)

pub shows_members : (old new : State) (rows : List Row) → Shown text.read_members [] old new rows → ShowsRows old pairs_of rows
shows_members old new rows h = (
  shown_open text.read_members _ old new rows h,
  λ book. subst (λ xs. IsPermutation (map (λ row. member_group row ∷ member_member row ∷ []) xs) rows) (all_pass (old.now.trees 4))
      (picks text.read_members _ 4 [] (col 1 1 ∷ col 1 2 ∷ []) read_members_is read_members_plain read_members_unlisted [] (λ row. true) (λ row. member_group row ∷ member_member row ∷ []) (λ db. refl) (λ r. refl) (λ r. refl) old new rows h book),
)

-- ---- the children of a node, which have different paths

abbrev HasPath : Row → Type 0
HasPath row = is_null (node_path row) ≡ false

same_path : (a b : Row) → equal Binary (node_path a) (node_path b) ≡ true → agree plain (2 ∷ []) a (2 ∷ []) b ≡ true
same_path a b here = rw (first_key-plain, here) refl

tie : (a b : Row) → HasPath a → HasPath b → agree plain (2 ∷ []) a (2 ∷ []) b ≡ false → is_eq (by_path a b) ≡ false
tie a b na nb apart = go (is_eq (by_path a b)) refl
  where
    go : (t : Bool) → is_eq (by_path a b) ≡ t → t ≡ false
    go false e = refl
    go true e = absurd (true≢false (sym (same_path a b (equal_tied _ _ na nb (tied (by_path a b) e))) ∙ apart))

module _ (p : Row → Bool) where
  rest_apart : (a : Row) → HasPath a → (rows : List Row) → AllByRecursion HasPath rows → AllByRecursion (λ r. agree plain (2 ∷ []) a (2 ∷ []) r ≡ false) rows → AllByRecursion (λ r. is_eq (by_path a r) ≡ false) (filter p rows)
  rest_apart a na [] paths apart = tt
  rest_apart a na (r ∷ rows) paths apart = go (p r) (rest_apart a na rows paths.1 apart.1)
    where
      go : (b : Bool) → AllByRecursion (λ r. is_eq (by_path a r) ≡ false) (filter p rows) → AllByRecursion (λ r. is_eq (by_path a r) ≡ false) (cond b (r ∷ filter p rows) (filter p rows))
      go true more = (tie a r na paths.0 apart.0, more)
      go false more = more

  paths_apart : (rows : List Row) → AllByRecursion HasPath rows → IsAscending (λ a b. agree plain (2 ∷ []) a (2 ∷ []) b ≡ false) rows → IsAscending (λ a b. is_eq (by_path a b) ≡ false) (filter p rows)
  paths_apart [] paths apart = tt
  paths_apart (r ∷ rows) paths apart = go (p r) (paths_apart rows paths.1 apart.1)
    where
      go : (b : Bool) → IsAscending (λ a b. is_eq (by_path a b) ≡ false) (filter p rows) → IsAscending (λ a b. is_eq (by_path a b) ≡ false) (cond b (r ∷ filter p rows) (filter p rows))
      go true more = (rest_apart r paths.0 rows paths.1 apart.0, more)
      go false more = more

has_path : (row : Row) → are_present (Rattle.std.proofs.Common.Some 0) 0 node_columns row ≡ true → HasPath row
has_path row h = go (is_null (node_path row)) refl (and_parts _ _ h).0
  where
    go : (b : Bool) → is_null (node_path row) ≡ b → Rattle.std.proofs.Common.not b ≡ true → b ≡ false
    go false e k = refl
    go true e k = absurd (true≢false (sym k))

all_paths : (rows : List Row) → AllByRecursion (λ row. are_present (Rattle.std.proofs.Common.Some 0) 0 node_columns row ≡ true) rows → AllByRecursion HasPath rows
all_paths [] h = tt
all_paths (r ∷ rows) h = (has_path r h.0, all_paths rows h.1)

pub shows_children : (old new : State) (id : ℤ) (rows : List Row) → Shown text.list_children (Int id ∷ []) old new rows → ShowsChildren old id rows
shows_children old new id rows h = (
  shown_open text.list_children _ old new rows h,
  λ book.
      let db = old.now.trees in
      let params : Row = Int id ∷ [] in
      let terms = equals 3 0 ∷ [] in
      let rules = subst (λ k. IsDatabase (record { schema = k; trees = db })) book.schema book.rules in
      let shaped = book.rising node_table (inl refl) in
      let read = (reads_as text.list_children params old new book_schema book.schema _ list_children_is list_children_plain list_children_unlisted rows h).answer Null in
      let same : filter (passes params terms) (db 0) ≡ filter (is_under (Int id)) (db 0) = (λ i. filter (λ r. and-true (is_under (Int id) r) i) (db 0)) in
      let distinct_rows = all_distinct (2 ∷ []) (db 0) (λ row there. keys_are_unique book_schema db _ 0 (2 ∷ []) row rules (inl refl) refl there) (db 0) (λ r t. t) shaped.0 shaped.1 in
      let paths = all_paths (db 0) (rules.obeys.rules NotNull).0 in
      let apart = paths_apart (is_under (Int id)) (db 0) paths distinct_rows in
      answers_in_order 0 terms children_columns 2 (overlay db []) params rows read (subst (IsAscending (λ a b. is_eq (by_path a b) ≡ false)) (sym same) apart)
      ∙ ap (λ xs. map (shown_by params children_columns) (Rattle.sqlite_keyed.specs.Lists.sort_by by_path xs)) same,
)
