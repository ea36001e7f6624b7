-- The entries of nodes that pass a test, in order of the node, of the list and of the place: no two of them tie.
use Rattle.book_tables_rows.proofs.Common.{and-true, ◌≡◌, ℕ, ℤ, pos, Bool, true, false, ◌&&◌, List, [], ◌∷◌, map, filter, None, refl, sym, ap, subst, ◌∙◌, true≢false, Ordering, Less, Equal, Greater, is_eq, IsTrue, inl, inr, AllByRecursion, ordering_then, and_parts, IsPermutation-map, Value, Null, Int, Binary, IsDatabase, is_null, Row, value_cmp, overlay, IsAnswer, Output, output, page, Query, Term, State, Shown, Trees, IsPlain, command_of, understood, reads_as, output_cmp, output_cmp_total, plain, first_key-plain, agree_back, agree_chain, IsAscending, IsTable, is_int, NotNull, equal, agree, are_present, keys_are_unique, sort_by, sorted_is-sort_by, sort_by-map, ascending-map, ascending_weaker, ace_node, ace_place, book_schema, node_table, rows_of, IsBook, is_under}
use Rattle.std.proofs.Common.{IsPermutation}
use Rattle.std.proofs.lemmas.Bool.{not-true}
use Rattle.std.proofs.lemmas.List.Sorted.{IsPermutation-trans, IsPermutation-sym}
use Rattle.sqlite.specs.Ops.{binary}
use Rattle.sqlite_trees.specs.Tree.{rowid}
use Rattle.sqlite_keyed.proofs.ListLemmas.{ascending-filter}
use Rattle.sqlite.specs.Command.TheVariants.{Select}
use Rattle.sqlite.specs.Listing.{reads_listing}
use Rattle.sqlite_sql.specs.Term.{holds}
use Rattle.std.specs.List.{list_all}
use Rattle.book_tables_rows.specs.Columns.{ace_protected, node_number_place}
use Rattle.book_tables_rows.specs.Schema.{ace2_table, ace_columns, ace2_tree}
use Rattle.book_tables_rows.specs.Texts as text
use Rattle.book_tables_rows.specs.Writes.{is_of_some}
use Rattle.book_tables_rows.specs.Lists.{ShowsChildEntries, ShowsChangedEntries, by_list, is_above, is_at_most, is_changed_between, listed_columns, listed_entries}
use Rattle.book_tables_rows.proofs.Keeping.{shown_open}
use Rattle.book_tables_rows.proofs.Meanings.{joined_query, child_entries_terms, changed_entries_terms, list_child_entries_is, list_child_entries_plain, list_child_entries_unlisted, list_changed_entries_is, list_changed_entries_plain, list_changed_entries_unlisted}
use Rattle.book_tables_rows.proofs.JoinedRows.{AreApart, joined, joined_are, drawn_are}
use Rattle.book_tables_rows.proofs.Keys.{not_null_if_int}
use Rattle.book_tables_rows.proofs.Statements.{map-map}
use Rattle.book_tables_rows.proofs.Entries.{all_distinct, equal_tied, tied}
use Rattle.book_tables_rows.proofs.Ordering.{then_equal}

-- ---- entries with one node, list and place agree on the key

-- the entry has a node, a list and a place
abbrev pub HasKey : Row → Type 0
HasKey row = (is_null (ace_node row) ≡ false) × (is_null (ace_protected row) ≡ false) × (is_null (ace_place row) ≡ false)

abbrev pub key : List ℕ
key = 1 ∷ 2 ∷ 3 ∷ []

same_key : (a b : Row) → equal Binary (ace_node a) (ace_node b) ≡ true → equal Binary (ace_protected a) (ace_protected b) ≡ true → equal Binary (ace_place a) (ace_place b) ≡ true → agree plain key a key b ≡ true
same_key a b node list place = rw (first_key-plain, node, list, place) refl

then_tied : (o p : Ordering) → is_eq (ordering_then o p) ≡ true → (o ≡ Equal) × (is_eq p ≡ true)
then_tied Less p h = absurd (true≢false (sym h))
then_tied Equal p h = (refl, h)
then_tied Greater p h = absurd (true≢false (sym h))

tie : (a b : Row) → HasKey a → HasKey b → agree plain key a key b ≡ false → is_eq (by_list a b) ≡ false
tie a b na nb apart = go (is_eq (by_list a b)) refl
  where
    go : (t : Bool) → is_eq (by_list a b) ≡ t → t ≡ false
    go false e = refl
    go true e =
        let node = then_tied (value_cmp (ace_node a) (ace_node b)) (ordering_then (value_cmp (ace_protected a) (ace_protected b)) (value_cmp (ace_place a) (ace_place b))) e in
        let list = then_tied (value_cmp (ace_protected a) (ace_protected b)) (value_cmp (ace_place a) (ace_place b)) node.1 in
        let place = tied (value_cmp (ace_place a) (ace_place b)) list.1 in
        absurd (true≢false (sym (same_key a b (equal_tied _ _ na.0 nb.0 node.0) (equal_tied _ _ na.1 nb.1 list.0) (equal_tied _ _ na.2 nb.2 place)) ∙ apart))

rest_apart : (a : Row) → HasKey a → (rows : List Row) → AllByRecursion HasKey rows → AllByRecursion (λ r. agree plain key a key r ≡ false) rows → AllByRecursion (λ r. is_eq (by_list a r) ≡ false) rows
rest_apart a na [] keys apart = tt
rest_apart a na (r ∷ rows) keys apart = (tie a r na keys.0 apart.0, rest_apart a na rows keys.1 apart.1)

pub lists_apart : (rows : List Row) → AllByRecursion HasKey rows → IsAscending (λ a b. agree plain key a key b ≡ false) rows → IsAscending (λ a b. is_eq (by_list a b) ≡ false) rows
lists_apart [] keys apart = tt
lists_apart (r ∷ rows) keys apart = (rest_apart r keys.0 rows keys.1 apart.0, lists_apart rows keys.1 apart.1)

has_key : (row : Row) → are_present None 0 ace_columns row ≡ true → HasKey row
has_key row h =
    let node = and_parts _ _ h in
    let list = and_parts _ _ node.1 in
    let place = and_parts _ _ list.1 in
    (not-true (is_null (ace_node row)) node.0, not-true (is_null (ace_protected row)) list.0, not-true (is_null (ace_place row)) place.0)

pub all_keys : (rows : List Row) → AllByRecursion (λ row. are_present None 0 ace_columns row ≡ true) rows → AllByRecursion HasKey rows
all_keys [] h = tt
all_keys (r ∷ rows) h = (has_key r h.0, all_keys rows h.1)

-- ---- an entry goes with one node at most

not_equal : (a b : Value) → is_null a ≡ false → is_null b ≡ false → value_cmp a b ≡ Less → equal Binary a b ≡ false
unfolding binary
not_equal a b p q less = rw (p, q, less) refl

module _ (passes : Row → Bool) where
  -- the entry is of the node, and the node passes
  abbrev pub goes : Row → Row → Bool
  goes n e = passes n && equal Binary (rowid n) (ace_node e)

  one_at_most : (a b : Row) → IsTrue (is_int (rowid a)) → IsTrue (is_int (rowid b)) → value_cmp (rowid a) (rowid b) ≡ Less → (e : Row) → goes a e ≡ true → goes b e ≡ false
  one_at_most a b int_a int_b less e with_a = go (goes b e) refl
    where
      number_is : (n : Row) → goes n e ≡ true → agree plain (0 ∷ []) n (1 ∷ []) e ≡ true
      number_is n is =
          let number : equal Binary (rowid n) (ace_node e) ≡ true = (and_parts (passes n) (equal Binary (rowid n) (ace_node e)) is).1 in
          rw (first_key-plain, number) refl

      apart : agree plain (0 ∷ []) a (0 ∷ []) b ≡ false
      apart =
          let other : equal Binary (rowid a) (rowid b) ≡ false = not_equal (rowid a) (rowid b) (not_null_if_int _ int_a) (not_null_if_int _ int_b) less in
          rw (first_key-plain, other) refl

      go : (t : Bool) → goes b e ≡ t → t ≡ false
      go false with_b = refl
      go true with_b =
          let same = agree_chain plain (0 ∷ []) (1 ∷ []) (0 ∷ []) a e b (number_is a with_a) (agree_back plain (0 ∷ []) (1 ∷ []) b e (number_is b with_b)) in
          absurd (true≢false (sym same ∙ apart))

  none_after : (a : Row) → IsTrue (is_int (rowid a)) → (rows : List Row) → AllByRecursion (λ r. IsTrue (is_int (rowid r))) rows → AllByRecursion (λ r. value_cmp (rowid a) (rowid r) ≡ Less) rows
      → AllByRecursion (AreApart goes a) rows
  none_after a int_a [] ints above = tt
  none_after a int_a (r ∷ rows) ints above = (one_at_most a r int_a ints.0 above.0, none_after a int_a rows ints.1 above.1)

  nodes_apart : (rows : List Row) → IsTable rows → AllByRecursion (λ r. IsTrue (is_int (rowid r))) rows → IsAscending (AreApart goes) rows
  nodes_apart [] table ints = tt
  nodes_apart (r ∷ rows) table ints = (none_after r ints.0 rows ints.1 table.0, nodes_apart rows table.1 ints.1)

-- ---- so they are shown as they sort

module _ (terms : List Term) (params : Row) (passes : Row → Bool) (tests : (n e : Row) → list_all (holds (params ∷ n ∷ e ∷ [])) terms ≡ goes passes n e) where
  abbrev query : Query
  query = joined_query terms

  abbrev env : Row → Row → List Row
  env n e = params ∷ n ∷ e ∷ []

  abbrev out : Row → Output
  out e = output query (env [] e)

  same_order : (a b : Row) → output_cmp query (out a) (out b) ≡ by_list a b
  same_order a b =
      ap (λ o. ordering_then (value_cmp (ace_node a) (ace_node b)) (ordering_then (value_cmp (ace_protected a) (ace_protected b)) o)) (then_equal (value_cmp (ace_place a) (ace_place b)))

  module _ (db : Trees) where
    abbrev picked : List Row
    picked = filter (is_of_some passes (db 0)) (db ace2_tree)

    in_order : (rows : List Row) → IsAnswer query db params rows → IsAscending (AreApart (goes passes)) (db 0) → IsAscending (λ a b. is_eq (by_list a b) ≡ false) picked
        → rows ≡ map listed_columns (sort_by by_list picked)
    in_order rows a nodes apart =
        let kept : a.kept ≡ map out (joined (goes passes) (db ace2_tree) (db 0)) =
        a.distinct ∙ ap (map (output query)) a.grouped ∙ drawn_are (λ n e. list_all (holds (env n e)) terms) (db ace2_tree) env (output query) out (λ n e. refl) (db 0)
        ∙ (λ i. map out (joined (λ n e. tests n e i) (db ace2_tree) (db 0))) in
        let same : IsPermutation (map out picked) a.ordered =
        IsPermutation-trans _ _ _ (IsPermutation-sym _ _ (IsPermutation-map out _ _ (joined_are (goes passes) (db ace2_tree) (db 0) nodes))) (subst (λ k. IsPermutation k a.ordered) kept a.same) in
        let apart_out = ascending-map (λ x y. is_eq (output_cmp query x y) ≡ false) out picked
        (ascending_weaker (λ a b. is_eq (by_list a b) ≡ false) (λ a b. is_eq (output_cmp query (out a) (out b)) ≡ false) (λ a b e. ap is_eq (same_order a b) ∙ e) picked apart) in
        let ordered : a.ordered ≡ map out (sort_by by_list picked) =
        sorted_is-sort_by (output_cmp query) (output_cmp_total query) (map out picked) a.ordered apart_out same a.sorted
        ∙ sort_by-map (output_cmp query) out picked ∙ ap (map out) (ap (λ (cmp : Row → Row → Ordering). sort_by cmp picked) (λ i x y. same_order x y i)) in
        a.shown ∙ ap (λ xs. page query params (map (λ (o : Output). o.1) xs)) ordered
        ∙ ap (page query params) (map-map (λ (o : Output). o.1) out (sort_by by_list picked))

  module _ (sql : List ℕ) (names : List (List ℕ)) (is : command_of (understood book_schema sql) ≡ Select (record { lets = []; body = query }) names) (plain : IsPlain (understood book_schema sql))
      (unlisted : reads_listing book_schema sql ≡ false) where
    shows_listed : (old new : State) (rows : List Row) → Shown sql params old new rows → IsBook old.now → rows ≡ listed_entries passes (rows_of old.now.trees)
    shows_listed old new rows h book =
        let db = old.now.trees in
        let rules = subst (λ k. IsDatabase (record { schema = k; trees = db })) book.schema book.rules in
        let shaped = book.rising ace2_table (inr (inr (inr (inr (inr (inl refl)))))) in
        let nodes = book.rising node_table (inl refl) in
        let read = (reads_as sql params old new book_schema book.schema _ is plain unlisted rows h).answer Null in
        let distinct_rows = all_distinct (1 ∷ 2 ∷ 3 ∷ []) (db ace2_tree) (λ row there. keys_are_unique book_schema db _ 0 (1 ∷ 2 ∷ 3 ∷ []) row rules (inr (inr (inr (inr (inr (inl refl)))))) refl there) (db ace2_tree) (λ r t. t) shaped.0 shaped.1 in
        let keys = all_keys (db ace2_tree) (rules.obeys.rules NotNull).1.1.1.1.1.0 in
        in_order (overlay db []) rows read (nodes_apart passes (db 0) nodes.0 nodes.1)
        (ascending-filter (λ a b. is_eq (by_list a b) ≡ false) (is_of_some passes (db 0)) (db ace2_tree) (lists_apart (db ace2_tree) keys distinct_rows))

pub shows_child_entries : (old new : State) (id : ℤ) (rows : List Row) → Shown text.list_child_entries (Int id ∷ []) old new rows → ShowsChildEntries old id rows
shows_child_entries old new id rows h = (
  shown_open text.list_child_entries _ old new rows h,
  λ book. shows_listed child_entries_terms (Int id ∷ []) (is_under (Int id)) (λ n e. ap (λ b. is_under (Int id) n && b) (and-true (equal Binary (rowid n) (ace_node e))))
      text.list_child_entries _ list_child_entries_is list_child_entries_plain list_child_entries_unlisted old new rows h book,
)

-- four tests, one after the other
four_tests : (a b c d : Bool) → (a && (b && (c && (d && true)))) ≡ ((a && (b && c)) && d)
four_tests false b c d = refl
four_tests true false c d = refl
four_tests true true false d = refl
four_tests true true true d = and-true d

pub shows_changed_entries : (old new : State) (id : ℤ) (number last : ℕ) (rows : List Row) → Shown text.list_changed_entries (Int id ∷ Int (pos number) ∷ Int (pos last) ∷ []) old new rows
    → ShowsChangedEntries old id number last rows
shows_changed_entries old new id number last rows h = (
  shown_open text.list_changed_entries _ old new rows h,
  λ book. shows_listed changed_entries_terms (Int id ∷ Int (pos number) ∷ Int (pos last) ∷ []) (is_changed_between id number last)
      (λ n e. four_tests (is_under (Int id) n) (is_above node_number_place number n) (is_at_most node_number_place last n) (equal Binary (rowid n) (ace_node e)))
      text.list_changed_entries _ list_changed_entries_is list_changed_entries_plain list_changed_entries_unlisted old new rows h book,
)
