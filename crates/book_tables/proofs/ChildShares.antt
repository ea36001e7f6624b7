-- The entries of one list among those of its node, or of many nodes, are the entries of the list: a sorted list, sifted, is the sifted list, sorted.
use Rattle.book_tables.proofs.Common.{◌≡◌, inl, ℕ, ℤ, Bool, true, false, cond, ◌&&◌, List, [], ◌∷◌, map, filter, drop, None, refl, sym, ap, subst, ◌∙◌, true≢false, arith, Ordering, Less, Equal, Greater, is_gt, int_cmp, IsTotalOrder, AllByRecursion, and_parts, tied_itself, ints, Value, Null, Int, Text, id_in, Database, IsDatabase, Row, value_cmp, rowid, IsAscending, value_cmp_total, value_cmp-Int, Has, all_has, all_from, has_filtered, sort_by, map-map, ascending-map, ace_node_place, ace_protected_place, rowid_place, by_path, Rows, rows_of, has, IsBook, book_schema, by_place, flag, is_entry, is_under, key_is, int_itself, child_shown, card_shown, entry_shown, entry_of, list_in, DoNotFall, card_among, child_among, list_among}
use Rattle.std.specs.Prelude.{◌≤ℤ◌, int_lt}
use Rattle.std.specs.Ordering.{ordering_reverse, ordering_then}
use Rattle.std.proofs.lemmas.Bool.{not-true}
use Rattle.std.proofs.lemmas.Cmp.{upto, on_total, then_total}
use Rattle.sqlite.specs.declared.types.Value.TheVariants.{Real, Blob}
use Rattle.sqlite.specs.Kind.TheVariants as kinds
use Rattle.sqlite.specs.Ops.{is_null}
use Rattle.sqlite_schema.specs.declared.schema.Column.{Column}
use Rattle.sqlite_schema.specs.declared.schema.Constraint.TheVariants.{Datatype, NotNull}
use Rattle.sqlite_schema.specs.Rules.{is_of as is_kind, are_typed, are_present, has_computed}
use Rattle.sqlite_rules.proofs.ListLemmas.{some_from}
use Rattle.sqlite_keyed.specs.Lists.{insert_sorted}
use Rattle.sqlite_keyed.proofs.ListLemmas.{all_weaker, all-filter, filter-map}
use Rattle.sqlite_trees.proofs.ListLemmas.{filter_same}
use Rattle.sqlite_catalog.proofs.ListFacts.{filter_within}
use Rattle.book_tables_rows.specs.Columns.{ace_node, ace_place, ace_protected}
use Rattle.book_tables_rows.specs.Lists.{by_list, changed_id, listed_columns, child_entries, children_of, listed_entries, listed_entry_place}
use Rattle.book_tables_rows.specs.Schema.{node_table, ace2_table, ace_columns}
use Rattle.book_tables_rows.specs.Writes.{is_of_some}
use Rattle.book_tables_rows.proofs.Typing.{typed_at, past_first}
use Rattle.book_tables.specs.Children.{listed_shown}
use Rattle.book_tables.specs.LastChanges.{changed_shown}
use Rattle.book_tables.specs.Shares.{is_listed, is_of, list_of, node_in}
use Rattle.book_tables.proofs.ChildRows.{ascending_within, by_path_total}
use Rattle.book_tables.proofs.ChildrenTold.{columns, map_within}
use Rattle.book_tables.proofs.Looking.{has_int, same_ints}
use Rattle.book_tables.proofs.SameLists.{has_sorted}

-- ---- a sorted list

module _ {X : Type 0} (cmp : X → X → Ordering) (total : IsTotalOrder cmp) where
  abbrev pub AtMost : X → X → Type 0
  AtMost a b = is_gt (cmp a b) ≡ false

  reversed : (o : Ordering) → is_gt o ≡ true → is_gt (ordering_reverse o) ≡ false
  reversed Less h = absurd (true≢false (sym h))
  reversed Equal h = refl
  reversed Greater h = refl

  still_at_most : (x y : X) (xs : List X) → AtMost x y → AllByRecursion (AtMost y) xs → AllByRecursion (AtMost x) xs
  still_at_most x y xs first above = all_weaker (AtMost y) (AtMost x) (λ z. upto total x y z first) xs above

  -- it has its place among what it is at most
  at_most_inserted : (x new : X) (xs : List X) → AtMost x new → AllByRecursion (AtMost x) xs → AllByRecursion (AtMost x) (insert_sorted cmp new xs)
  at_most_inserted x new [] h above = (h, tt)
  at_most_inserted x new (y ∷ xs) h above =
      elim (is_gt (cmp new y)) as (λ b. AllByRecursion (AtMost x) (cond b (y ∷ insert_sorted cmp new xs) (new ∷ y ∷ xs)))
      [ true ↦ (above.0, at_most_inserted x new xs h above.1) | false ↦ (h, above) ]

  up_inserted : (new : X) (xs : List X) → IsAscending AtMost xs → IsAscending AtMost (insert_sorted cmp new xs)
  up_inserted new [] up = (tt, tt)
  up_inserted new (x ∷ xs) up = go (is_gt (cmp new x)) refl (up_inserted new xs up.1)
    where
      go : (b : Bool) → is_gt (cmp new x) ≡ b → IsAscending AtMost (insert_sorted cmp new xs) → IsAscending AtMost (cond b (x ∷ insert_sorted cmp new xs) (new ∷ x ∷ xs))
      go true e more = (at_most_inserted x new xs (ap is_gt (total.antisymm x new) ∙ reversed (cmp new x) e) up.0, more)
      go false e more = ((e, still_at_most new x xs e up.0), up)

  pub up_sorted : (xs : List X) → IsAscending AtMost (sort_by cmp xs)
  up_sorted [] = tt
  up_sorted (x ∷ xs) = up_inserted x (sort_by cmp xs) (up_sorted xs)

  inserted_first : (new : X) (xs : List X) → AllByRecursion (AtMost new) xs → insert_sorted cmp new xs ≡ new ∷ xs
  inserted_first new [] above = refl
  inserted_first new (x ∷ xs) above = rw above.0 refl

  module _ (p : X → Bool) where
    kept_inserted : (new : X) (xs : List X) → p new ≡ true → IsAscending AtMost xs → filter p (insert_sorted cmp new xs) ≡ insert_sorted cmp new (filter p xs)
    kept_inserted new [] passes up = rw passes refl
    kept_inserted new (x ∷ xs) passes up = go (is_gt (cmp new x)) refl (kept_inserted new xs passes up.1)
      where
        later : (c : Bool) → p x ≡ c → is_gt (cmp new x) ≡ true → filter p (insert_sorted cmp new xs) ≡ insert_sorted cmp new (filter p xs)
            → filter p (x ∷ insert_sorted cmp new xs) ≡ insert_sorted cmp new (filter p (x ∷ xs))
        later true h e more = rw (h, e) (ap (λ l. x ∷ l) more)
        later false h e more = rw h more

        go : (b : Bool) → is_gt (cmp new x) ≡ b → filter p (insert_sorted cmp new xs) ≡ insert_sorted cmp new (filter p xs)
            → filter p (cond b (x ∷ insert_sorted cmp new xs) (new ∷ x ∷ xs)) ≡ insert_sorted cmp new (filter p (x ∷ xs))
        go true e more = later (p x) refl e more
        go false e more =
            ap (λ b. cond b (new ∷ filter p (x ∷ xs)) (filter p (x ∷ xs))) passes
            ∙ sym (inserted_first new (filter p (x ∷ xs)) (all-filter (AtMost new) p (x ∷ xs) (e, still_at_most new x xs e up.0)))

    left_inserted : (new : X) (xs : List X) → p new ≡ false → filter p (insert_sorted cmp new xs) ≡ filter p xs
    left_inserted new [] fails = rw fails refl
    left_inserted new (x ∷ xs) fails = go (is_gt (cmp new x)) (left_inserted new xs fails)
      where
        go : (b : Bool) → filter p (insert_sorted cmp new xs) ≡ filter p xs → filter p (cond b (x ∷ insert_sorted cmp new xs) (new ∷ x ∷ xs)) ≡ filter p (x ∷ xs)
        go true more = ap (λ l. cond (p x) (x ∷ l) l) more
        go false more = ap (λ b. cond b (new ∷ filter p (x ∷ xs)) (filter p (x ∷ xs))) fails

    pub sifted_sorted : (xs : List X) → filter p (sort_by cmp xs) ≡ sort_by cmp (filter p xs)
    sifted_sorted [] = refl
    sifted_sorted (x ∷ xs) = go (p x) refl (sifted_sorted xs)
      where
        go : (b : Bool) → p x ≡ b → filter p (sort_by cmp xs) ≡ sort_by cmp (filter p xs)
            → filter p (insert_sorted cmp x (sort_by cmp xs)) ≡ sort_by cmp (cond b (x ∷ filter p xs) (filter p xs))
        go true e more = kept_inserted x (sort_by cmp xs) e (up_sorted xs) ∙ ap (insert_sorted cmp x) more
        go false e more = left_inserted x (sort_by cmp xs) e ∙ more

  -- orders that are one where P holds sort it alike
  module _ (other : X → X → Ordering) (P : X → Type 0) (one : (a b : X) → P a → P b → cmp a b ≡ other a b) where
    inserted_alike : (new : X) (xs : List X) → P new → AllByRecursion P xs → insert_sorted cmp new xs ≡ insert_sorted other new xs
    inserted_alike new [] h all = refl
    inserted_alike new (x ∷ xs) h all =
        ap (λ o. cond (is_gt o) (x ∷ insert_sorted cmp new xs) (new ∷ x ∷ xs)) (one new x h all.0)
        ∙ ap (λ l. cond (is_gt (other new x)) (x ∷ l) (new ∷ x ∷ xs)) (inserted_alike new xs h all.1)

    pub sorted_alike : (xs : List X) → AllByRecursion P xs → sort_by cmp xs ≡ sort_by other xs
    sorted_alike [] all = refl
    sorted_alike (x ∷ xs) all =
        inserted_alike x (sort_by cmp xs) all.0 (all_from P (sort_by cmp xs) (λ y h. all_has P xs y all.1 (has_sorted cmp total xs y h)))
        ∙ ap (insert_sorted other x) (sorted_alike xs all.1)

both_tests : {X : Type 0} (p q : X → Bool) (xs : List X) → filter q (filter p xs) ≡ filter (λ x. p x && q x) xs
both_tests p q [] = refl
both_tests p q (x ∷ xs) = go (p x) refl (both_tests p q xs)
  where
    go : (b : Bool) → p x ≡ b → filter q (filter p xs) ≡ filter (λ y. p y && q y) xs
        → filter q (cond b (x ∷ filter p xs) (filter p xs)) ≡ cond (b && q x) (x ∷ filter (λ y. p y && q y) xs) (filter (λ y. p y && q y) xs)
    go true e more = ap (λ l. cond (q x) (x ∷ l) l) more
    go false e more = more

-- ---- the columns of an entry

by_list_total : IsTotalOrder by_list
by_list_total =
    then_total (on_total (λ (r : Row). ace_node r) value_cmp_total) (then_total (on_total (λ (r : Row). ace_protected r) value_cmp_total) (on_total (λ (r : Row). ace_place r) value_cmp_total))

-- the node and the list are whole numbers
pub record IsNumbered (row : Row) : Type 0 where
  pub node : ace_node row ≡ Int (id_in (ace_node row))
  pub list : ace_protected row ≡ Int (id_in (ace_protected row))

int_there : (v : Value) → is_null v ≡ false → is_kind kinds.Integer v ≡ true → v ≡ Int (id_in v)
int_there Null there typed = absurd (true≢false there)
int_there (Int n) there typed = refl
int_there (Real x) there typed = absurd (true≢false (sym typed))
int_there (Text t) there typed = absurd (true≢false (sym typed))
int_there (Blob b) there typed = absurd (true≢false (sym typed))

pub flag_is : (b : Bool) → flag b ≡ Int (id_in (flag b))
flag_is true = refl
flag_is false = refl

at_most_numbers : (n m : ℤ) → is_gt (int_cmp n m) ≡ false → n ≤ℤ m
at_most_numbers n m h = go (int_lt n m) (int_lt m n) refl refl h
  where
    go : (a b : Bool) → int_lt n m ≡ a → int_lt m n ≡ b → is_gt (cond a Less (cond b Greater Equal)) ≡ false → n ≤ℤ m
    go true b p q k = grind (arith, ints)
    go false true p q k = absurd (true≢false k)
    go false false p q k = grind (arith, ints)

first_at_most : (o rest : Ordering) → is_gt (ordering_then o rest) ≡ false → is_gt o ≡ false
first_at_most Less rest h = refl
first_at_most Equal rest h = refl
first_at_most Greater rest h = h

module _ (db : Database) (book : IsBook db) where
  abbrev rows : Rows
  rows = rows_of db.trees

  rules : IsDatabase (record { schema = book_schema; trees = db.trees })
  rules = subst (λ k. IsDatabase (record { schema = k; trees = db.trees })) book.schema book.rules

  pub numbered : (row : Row) → Has rows.entries row → IsNumbered row
  numbered row there =
      let types = (and_parts (are_typed None 0 ace_columns (drop 1 row)) (has_computed ace2_table row) (all_has _ rows.entries row (rules.obeys.rules Datatype).1.1.1.1.1.0 there)).0 in
      let node = and_parts _ _ (all_has (λ r. are_present None 0 ace_columns r ≡ true) rows.entries row (rules.obeys.rules NotNull).1.1.1.1.1.0 there) in
      let list = and_parts _ _ node.1 in
      let at = λ (i : ℕ) (c : Column). typed_at None 0 ace_columns (drop 1 row) i c types in
      record {
        node = int_there (ace_node row) (not-true (is_null (ace_node row)) node.0) (ap (is_kind kinds.Integer) (sym (past_first row 0)) ∙ at 0 _ refl refl refl);
        list = int_there (ace_protected row) (not-true (is_null (ace_protected row)) list.0) (ap (is_kind kinds.Integer) (sym (past_first row 1)) ∙ at 1 _ refl refl refl);
      }

  -- ---- the lists of one node

  module _ (number : ℤ) (protected : Bool) where
    abbrev its : Row → Bool
    its = is_entry (Int number) protected

    -- what is told of an entry of one of its lists
    tells : (row : Row) → IsNumbered row → its row ≡ true → (ace_node row ≡ Int number) × (ace_protected row ≡ flag protected)
    tells row n passes =
        let both = and_parts (has ace_node_place (Int number) row) (has ace_protected_place (flag protected) row) passes in
        let second : has ace_protected_place (Int (id_in (flag protected))) row ≡ true = ap (λ v. has ace_protected_place v row) (sym (flag_is protected)) ∙ both.1 in
        (n.node ∙ ap Int (same_ints 1 row (id_in (ace_node row)) number n.node both.0), n.list ∙ ap Int (same_ints 2 row (id_in (ace_protected row)) (id_in (flag protected)) n.list second) ∙ sym (flag_is protected))

    listed : (row : Row) → IsNumbered row → is_listed protected (listed_columns row) ≡ has ace_protected_place (flag protected) row
    listed row n = sym (ap (λ v. has ace_protected_place v row) (flag_is protected) ∙ has_int 2 row (id_in (ace_protected row)) (id_in (flag protected)) n.list)

    tested : (row : Row) → IsNumbered row → (is_of number (listed_columns row) && is_listed protected (listed_columns row)) ≡ its row
    tested row n = (λ i. sym (has_int 1 row (id_in (ace_node row)) number n.node) i && listed row n i)

    one_place : (a b : Row) → (ace_node a ≡ Int number) × (ace_protected a ≡ flag protected) → (ace_node b ≡ Int number) × (ace_protected b ≡ flag protected) → by_list a b ≡ by_place a b
    one_place a b in_a in_b =
        (λ i. ordering_then (value_cmp (in_a.0 i) (in_b.0 i)) (ordering_then (value_cmp (in_a.1 i) (in_b.1 i)) (by_place a b)))
        ∙ ap (λ o. ordering_then o (ordering_then (value_cmp (flag protected) (flag protected)) (by_place a b))) (tied_itself value_cmp_total (Int number))
        ∙ ap (λ o. ordering_then o (by_place a b)) (tied_itself value_cmp_total (flag protected))

    in_place : sort_by by_list (filter its rows.entries) ≡ sort_by by_place (filter its rows.entries)
    in_place =
        sorted_alike by_list by_list_total by_place (λ r. (ace_node r ≡ Int number) × (ace_protected r ≡ flag protected)) one_place (filter its rows.entries)
        (all_from _ (filter its rows.entries) (λ r h. let found = has_filtered its rows.entries r h in tells r (numbered r found.0) found.1))

    -- a list among all entries of the node
    pub list_is_told : list_among protected (map listed_columns (sort_by by_list (filter (has ace_node_place (Int number)) rows.entries))) ≡ list_in rows.entries (Int number) protected
    list_is_told =
        let own = filter (has ace_node_place (Int number)) rows.entries in
        ap (map (entry_shown listed_entry_place)) (filter-map (is_listed protected) listed_columns (sort_by by_list own))
        ∙ map-map (entry_shown listed_entry_place) listed_columns (filter (λ r. is_listed protected (listed_columns r)) (sort_by by_list own))
        ∙ ap (map entry_of) (sifted_sorted by_list by_list_total (λ r. is_listed protected (listed_columns r)) own
        ∙ ap (sort_by by_list) (filter_same (λ r. is_listed protected (listed_columns r)) (has ace_protected_place (flag protected)) own
        (all_from _ own (λ r h. listed r (numbered r (has_filtered (has ace_node_place (Int number)) rows.entries r h).0)))
        ∙ both_tests (has ace_node_place (Int number)) (has ace_protected_place (flag protected)) rows.entries)
        ∙ in_place)

  -- ---- the entries of the nodes that pass a test

  module _ (passes : Row → Bool) where
    abbrev theirs : List Row
    theirs = filter (is_of_some passes rows.nodes) rows.entries

    abbrev sorted : List Row
    sorted = sort_by by_list theirs

    in_table : (row : Row) → Has sorted row → Has rows.entries row
    in_table row h = (has_filtered (is_of_some passes rows.nodes) rows.entries row (has_sorted by_list by_list_total theirs row h)).0

    not_above : (a b : Row) → IsNumbered a → IsNumbered b → is_gt (by_list a b) ≡ false → id_in (ace_node a) ≤ℤ id_in (ace_node b)
    not_above a b na nb h =
        let first : is_gt (value_cmp (ace_node a) (ace_node b)) ≡ false = first_at_most (value_cmp (ace_node a) (ace_node b)) (ordering_then (value_cmp (ace_protected a) (ace_protected b)) (value_cmp (ace_place a) (ace_place b))) h in
        at_most_numbers (id_in (ace_node a)) (id_in (ace_node b)) (sym (ap is_gt ((λ i. value_cmp (na.node i) (nb.node i)) ∙ value_cmp-Int (id_in (ace_node a)) (id_in (ace_node b)))) ∙ first)

    pub do_not_fall : DoNotFall (listed_entries passes rows)
    do_not_fall =
        ascending-map (λ a b. node_in a ≤ℤ node_in b) listed_columns sorted
        (ascending_within (AtMost by_list by_list_total) (λ a b. id_in (ace_node a) ≤ℤ id_in (ace_node b)) sorted
        (λ a b in_a in_b h. not_above a b (numbered a (in_table a in_a)) (numbered b (in_table b in_b)) h) (up_sorted by_list by_list_total theirs))

    -- ---- the lists of one of these nodes

    module _ (node : Row) (there : Has rows.nodes node) (is_one : passes node ≡ true) (protected : Bool) where
      abbrev number : ℤ
      number = id_in (rowid node)

      number_is : rowid node ≡ Int number
      number_is = key_is node (all_has _ rows.nodes node (book.rising node_table (inl refl)).1 there)

      its_among : (row : Row) → Has rows.entries row → its number protected row ≡ true → is_of_some passes rows.nodes row ≡ true
      its_among row in_entries is_its =
          some_from _ rows.nodes node there
          (ap (λ b. b && has rowid_place (ace_node row) node) is_one ∙ ap (λ v. has rowid_place v node) (tells number protected row (numbered row in_entries) is_its).0 ∙ has_int 0 node number number number_is ∙ int_itself number)

      sifted : filter (its number protected) sorted ≡ sort_by by_place (filter (its number protected) rows.entries)
      sifted =
          sifted_sorted by_list by_list_total (its number protected) theirs ∙ ap (sort_by by_list) (filter_within (its number protected) (is_of_some passes rows.nodes) rows.entries its_among)
          ∙ in_place number protected

      pub share_is : list_of (listed_entries passes rows) number protected ≡ list_in rows.entries (Int number) protected
      share_is =
          ap (λ shown. list_among protected shown) (filter-map (is_of number) listed_columns sorted)
          ∙ ap (map (entry_shown listed_entry_place)) (filter-map (is_listed protected) listed_columns (filter (λ r. is_of number (listed_columns r)) sorted))
          ∙ map-map (entry_shown listed_entry_place) listed_columns (filter (λ r. is_listed protected (listed_columns r)) (filter (λ r. is_of number (listed_columns r)) sorted))
          ∙ ap (map entry_of) (both_tests (λ r. is_of number (listed_columns r)) (λ r. is_listed protected (listed_columns r)) sorted
          ∙ filter_same (λ r. is_of number (listed_columns r) && is_listed protected (listed_columns r)) (its number protected) sorted (all_from _ sorted (λ r h. tested number protected r (numbered r (in_table r h)))) ∙ sifted)

    -- changed cards that are such nodes, with the lists that are told of all of these, are the cards with their lists
    pub cards_are : (front : List ℕ) (shown : List Row) → AllByRecursion (λ row. (card : Row) × Has rows.nodes card × (passes card ≡ true) × (changed_id row ≡ rowid card)) shown
        → map (card_among (listed_entries passes rows) front) shown ≡ map (card_shown rows front) shown
    cards_are front [] cards = refl
    cards_are front (row ∷ shown) cards =
        let number : node_in row ≡ id_in (rowid cards.0.0) = ap id_in cards.0.3 in
        let own : list_of (listed_entries passes rows) (node_in row) false ≡ list_in rows.entries (Int (node_in row)) false =
        ap (λ k. list_of (listed_entries passes rows) k false) number ∙ share_is cards.0.0 cards.0.1 cards.0.2 false ∙ ap (λ k. list_in rows.entries (Int k) false) (sym number) in
        λ i. changed_shown front (own i) row ∷ cards_are front shown cards.1 i

  -- children with the lists that are told of all of them are the children with their lists
  pub shares_are : (id : ℤ) (front : List ℕ) → map (child_among (child_entries id rows) front) (children_of id rows) ≡ map (child_shown rows front) (children_of id rows)
  shares_are id front =
      let under = filter (is_under (Int id)) rows.nodes in
      map-map (child_among (child_entries id rows) front) columns (sort_by by_path under)
      ∙ map_within (λ x. child_among (child_entries id rows) front (columns x)) (λ x. child_shown rows front (columns x)) (sort_by by_path under) (λ x h.
      let found = has_filtered (is_under (Int id)) rows.nodes x (has_sorted by_path by_path_total under x h) in
      λ i. listed_shown front (share_is (is_under (Int id)) x found.0 found.1 true i) (share_is (is_under (Int id)) x found.0 found.1 false i) (columns x))
      ∙ sym (map-map (child_shown rows front) columns (sort_by by_path under))
