-- The entries of the node at a path, in order of the list and of the place: the one row of the path is joined with its entries.
use Rattle.book_tables_rows.proofs.Common.{and-true, ◌≡◌, ℕ, Bool, true, false, cond, ◌&&◌, List, [], ◌∷◌, ◌++◌, map, filter, find, flat_map, Option, Some, None, option_map, unwrap_or, refl, ap, subst, ◌∙◌, Ordering, is_eq, inl, inr, if◌then◌else◌, AllByRecursion, ordering_then, Null, Text, IsDatabase, Row, value_cmp, overlay, IsAnswer, Output, output, page, State, Shown, Trees, rowid, reads_as, output_cmp, output_cmp_total, IsAscending, NotNull, keys_are_unique, sort_by, sorted_is-sort_by, sort_by-map, ascending-map, ascending_weaker, ace_node, ace_node_place, ace_place, book_schema, node_table, has, is_at}
use Rattle.std.proofs.Common.{append-nil, IsPermutation}
use Rattle.sqlite_keyed.proofs.ListLemmas.{ascending-filter}
use Rattle.book_tables_rows.specs.Columns.{ace_protected}
use Rattle.book_tables_rows.specs.Schema.{ace2_table, ace2_tree}
use Rattle.book_tables_rows.specs.Texts as text
use Rattle.book_tables_rows.specs.Lists.{ShowsEntriesAt, by_list, listed_columns}
use Rattle.book_tables_rows.proofs.Keeping.{shown_open}
use Rattle.book_tables_rows.proofs.Keys.{path_once}
use Rattle.book_tables_rows.proofs.Meanings.{entries_at_query, list_entries_at_is, list_entries_at_plain, list_entries_at_unlisted}
use Rattle.book_tables_rows.proofs.Once.{PassesOnce, drawn}
use Rattle.book_tables_rows.proofs.Statements.{map-map, matched}
use Rattle.book_tables_rows.proofs.Becoming.{empty_permutation}
use Rattle.book_tables_rows.proofs.Entries.{all_distinct}
use Rattle.book_tables_rows.proofs.ChildEntries.{all_keys, lists_apart}
use Rattle.book_tables_rows.proofs.Ordering.{then_equal}

-- ---- a join with the one row that passes

module _ {X : Type 0} (p : Row → Bool) (its : Row → Row → Bool) (f : Row → Row → X) (entries : List Row) where
  abbrev joined_with : Row → List Row → List X
  joined_with n = flat_map (λ e. if p n && (its n e && true) then f n e ∷ [] else [])

  none_with : (n : Row) → p n ≡ false → (es : List Row) → joined_with n es ≡ []
  none_with n fails [] = refl
  none_with n fails (e ∷ es) = ap (λ b. (if b && (its n e && true) then f n e ∷ [] else []) ++ joined_with n es) fails ∙ none_with n fails es

  all_with : (n : Row) → p n ≡ true → joined_with n entries ≡ map (f n) (filter (its n) entries)
  all_with n passes =
      ap (λ b. flat_map (λ e. if b && (its n e && true) then f n e ∷ [] else []) entries) passes
      ∙ matched (λ e. its n e && true) (f n) entries ∙ (λ i. map (f n) (filter (λ e. and-true (its n e) i) entries))

  none_joined : (nodes : List Row) → AllByRecursion (λ n. p n ≡ false) nodes → flat_map (λ n. joined_with n entries) nodes ≡ []
  none_joined [] none = refl
  none_joined (n ∷ nodes) none = ap (λ xs. xs ++ flat_map (λ n. joined_with n entries) nodes) (none_with n none.0 entries) ∙ none_joined nodes none.1

  abbrev with_found : Option Row → List X
  with_found found = unwrap_or (option_map (λ n. map (f n) (filter (its n) entries)) found) []

  pub one_joined : (nodes : List Row) → PassesOnce p nodes → flat_map (λ n. joined_with n entries) nodes ≡ with_found (find p nodes)
  one_joined [] once = refl
  one_joined (n ∷ nodes) once = go (p n) refl (one_joined nodes once.1)
    where
      go : (b : Bool) → p n ≡ b → flat_map (λ n. joined_with n entries) nodes ≡ with_found (find p nodes)
          → joined_with n entries ++ flat_map (λ n. joined_with n entries) nodes ≡ with_found (cond b (Some n) (find p nodes))
      go true passes more =
          ap (λ xs. joined_with n entries ++ xs) (none_joined nodes (drawn p n passes nodes once.0)) ∙ append-nil (joined_with n entries) ∙ all_with n passes
      go false fails more = ap (λ xs. xs ++ flat_map (λ n. joined_with n entries) nodes) (none_with n fails entries) ∙ more

-- ---- so its entries are shown as they sort

module _ (db : Trees) (path : List ℕ) where
  abbrev params : Row
  params = Text path ∷ []

  abbrev env : Row → Row → List Row
  env n e = params ∷ n ∷ e ∷ []

  abbrev out : Row → Row → Output
  out n e = output entries_at_query (env n e)

  abbrev its : Row → Row → Bool
  its n = has ace_node_place (rowid n)

  same_order : (n a b : Row) → output_cmp entries_at_query (out n a) (out n b) ≡ by_list a b
  same_order n a b =
      ap (λ o. ordering_then (value_cmp (ace_node a) (ace_node b)) (ordering_then (value_cmp (ace_protected a) (ace_protected b)) o)) (then_equal (value_cmp (ace_place a) (ace_place b)))

  module _ (rows : List Row) (a : IsAnswer entries_at_query db params rows) (once : PassesOnce (is_at path) (db 0)) where
    staged : a.staged ≡ unwrap_or (option_map (λ n. map (env n) (filter (its n) (db ace2_tree))) (find (is_at path) (db 0))) []
    staged = a.grouped ∙ one_joined (is_at path) its env (db ace2_tree) (db 0) once

    none_shown : find (is_at path) (db 0) ≡ None → rows ≡ []
    none_shown none =
        let empty : a.kept ≡ [] = a.distinct ∙ ap (map (output entries_at_query)) (staged ∙ ap (λ found. unwrap_or (option_map (λ n. map (env n) (filter (its n) (db ace2_tree))) found) []) none) in
        let ordered : a.ordered ≡ [] = empty_permutation a.ordered (subst (λ k. IsPermutation k a.ordered) empty a.same) in
        a.shown ∙ ap (λ xs. page entries_at_query params (map (λ (o : Output). o.1) xs)) ordered

    in_order : (n : Row) → find (is_at path) (db 0) ≡ Some n → IsAscending (λ a b. is_eq (by_list a b) ≡ false) (filter (its n) (db ace2_tree))
        → rows ≡ map listed_columns (sort_by by_list (filter (its n) (db ace2_tree)))
    in_order n there apart =
        let picked = filter (its n) (db ace2_tree) in
        let kept : a.kept ≡ map (out n) picked =
        a.distinct ∙ ap (map (output entries_at_query)) (staged ∙ ap (λ found. unwrap_or (option_map (λ n. map (env n) (filter (its n) (db ace2_tree))) found) []) there)
        ∙ map-map (output entries_at_query) (env n) picked in
        let same = subst (λ k. IsPermutation k a.ordered) kept a.same in
        let apart_out = ascending-map (λ x y. is_eq (output_cmp entries_at_query x y) ≡ false) (out n) picked
        (ascending_weaker (λ a b. is_eq (by_list a b) ≡ false) (λ a b. is_eq (output_cmp entries_at_query (out n a) (out n b)) ≡ false) (λ a b e. ap is_eq (same_order n a b) ∙ e) picked apart) in
        let ordered : a.ordered ≡ map (out n) (sort_by by_list picked) =
        sorted_is-sort_by (output_cmp entries_at_query) (output_cmp_total entries_at_query) (map (out n) picked) a.ordered apart_out same a.sorted
        ∙ sort_by-map (output_cmp entries_at_query) (out n) picked ∙ ap (map (out n)) (ap (λ (cmp : Row → Row → Ordering). sort_by cmp picked) (λ i x y. same_order n x y i)) in
        a.shown ∙ ap (λ xs. page entries_at_query params (map (λ (o : Output). o.1) xs)) ordered
        ∙ ap (page entries_at_query params) (map-map (λ (o : Output). o.1) (out n) (sort_by by_list picked))

    pub shown_is : ((n : Row) → IsAscending (λ a b. is_eq (by_list a b) ≡ false) (filter (its n) (db ace2_tree)))
        → rows ≡ unwrap_or (option_map (λ n. map listed_columns (sort_by by_list (filter (its n) (db ace2_tree)))) (find (is_at path) (db 0))) []
    shown_is apart = go (find (is_at path) (db 0)) refl
      where
        go : (found : Option Row) → find (is_at path) (db 0) ≡ found → rows ≡ unwrap_or (option_map (λ n. map listed_columns (sort_by by_list (filter (its n) (db ace2_tree)))) found) []
        go None none = none_shown none
        go (Some n) there = in_order n there (apart n)

pub shows_entries_at : (old new : State) (path : List ℕ) (rows : List Row) → Shown text.list_entries_at (Text path ∷ []) old new rows → ShowsEntriesAt old path rows
shows_entries_at old new path rows h = (
  shown_open text.list_entries_at _ old new rows h,
  λ book.
      let db = old.now.trees in
      let rules = subst (λ k. IsDatabase (record { schema = k; trees = db })) book.schema book.rules in
      let shaped = book.rising ace2_table (inr (inr (inr (inr (inr (inl refl)))))) in
      let read = (reads_as text.list_entries_at (Text path ∷ []) old new book_schema book.schema _ list_entries_at_is list_entries_at_plain list_entries_at_unlisted rows h).answer Null in
      let once = path_once path db rules (book.rising node_table (inl refl)) in
      let distinct_rows = all_distinct (1 ∷ 2 ∷ 3 ∷ []) (db ace2_tree) (λ row there. keys_are_unique book_schema db _ 0 (1 ∷ 2 ∷ 3 ∷ []) row rules (inr (inr (inr (inr (inr (inl refl)))))) refl there) (db ace2_tree) (λ r t. t) shaped.0 shaped.1 in
      let keys = all_keys (db ace2_tree) (rules.obeys.rules NotNull).1.1.1.1.1.0 in
      shown_is (overlay db []) path rows read once
      (λ n. ascending-filter (λ a b. is_eq (by_list a b) ≡ false) (has ace_node_place (rowid n)) (db ace2_tree) (lists_apart (db ace2_tree) keys distinct_rows)),
)
