-- Where the entries of each node that has one below another are taken out, all entries below that one are.
use Rattle.book_tables_rows.proofs.Common.{◌≡◌, inl, inr, Bool, true, false, not, ◌&&◌, ◌||◌, cond, List, [], ◌∷◌, map, filter, ℤ, refl, sym, ap, ◌∙◌, true≢false, and_parts, list_any, Value, Int, Binary, Row, plain, first_key-plain, agree, agree_back, agree_chain, equal, rowid, State, Rows, rows_of, IsBook, has, is_under, ace_node, ace_node_place, ace_place}
use Rattle.std.specs.Cmp.{IsTotalOrder}
use Rattle.std.proofs.lemmas.Bool.{and_from}
use Rattle.std.proofs.lemmas.Cmp.{on_total, then_total}
use Rattle.std.proofs.lemmas.List.Sorted.{list_any-IsPermutation}
use Rattle.sqlite_value.proofs.OrderLemmas.{value_cmp_total}
use Rattle.sqlite_keyed.specs.Lists.{sort_by}
use Rattle.sqlite_keyed.proofs.SortLemmas.{IsPermutation-sort_by}
use Rattle.sqlite_rules.specs.Lists.{Has}
use Rattle.sqlite_rules.proofs.ListLemmas.{some_has, has_filtered, has_kept}
use Rattle.book_tables_rows.specs.Columns.{ace_protected}
use Rattle.book_tables_rows.specs.Lists.{ShowsChildEntries, by_list, child_entries, listed_columns, listed_node}
use Rattle.book_tables_rows.specs.Writes as writes
use Rattle.book_tables_rows.specs.Writes.{is_below}
use Rattle.book_tables_rows.proofs.Shapes.{without_two, all_kept}

-- ---- values that SQL finds equal

agrees : (a b : Value) (t : Bool) → equal Binary a b ≡ t → agree plain (0 ∷ []) (a ∷ []) (0 ∷ []) (b ∷ []) ≡ t
agrees a b true e = rw (first_key-plain, e) refl
agrees a b false e = rw (first_key-plain, e) refl

agreed : (a b : Value) → agree plain (0 ∷ []) (a ∷ []) (0 ∷ []) (b ∷ []) ≡ true → equal Binary a b ≡ true
agreed a b h = go (equal Binary a b) refl
  where
    go : (t : Bool) → equal Binary a b ≡ t → t ≡ true
    go true e = refl
    go false e = absurd (true≢false (sym h ∙ agrees a b false e))

equal_back : (a b : Value) → equal Binary a b ≡ true → equal Binary b a ≡ true
equal_back a b h = agreed b a (agree_back plain (0 ∷ []) (0 ∷ []) (a ∷ []) (b ∷ []) (agrees a b true h))

equal_chain : (a b c : Value) → equal Binary a b ≡ true → equal Binary b c ≡ true → equal Binary a c ≡ true
equal_chain a b c p q = agreed a c (agree_chain plain (0 ∷ []) (0 ∷ []) (0 ∷ []) (a ∷ []) (b ∷ []) (c ∷ []) (agrees a b true p) (agrees b c true q))

-- ---- lists

or_true : (b : Bool) → (b || true) ≡ true
or_true true = refl
or_true false = refl

any_of : {X : Type 0} (p : X → Bool) (xs : List X) (x : X) → Has xs x → p x ≡ true → list_any p xs ≡ true
any_of p [] x h e = absurd h
any_of p (y ∷ xs) x (inl is) e = ap (λ b. b || list_any p xs) (ap p (sym is) ∙ e)
any_of p (y ∷ xs) x (inr later) e = ap (λ b. p y || b) (any_of p xs x later e) ∙ or_true (p y)

any_mapped : {X Y : Type 0} (p : Y → Bool) (f : X → Y) (xs : List X) → list_any p (map f xs) ≡ list_any (λ x. p (f x)) xs
any_mapped p f [] = refl
any_mapped p f (x ∷ xs) = ap (λ b. p (f x) || b) (any_mapped p f xs)

filter_alike : {X : Type 0} (p q : X → Bool) (xs : List X) → ((x : X) → Has xs x → p x ≡ q x) → filter p xs ≡ filter q xs
filter_alike p q [] alike = refl
filter_alike p q (x ∷ xs) alike =
    let rest = filter_alike p q xs (λ z h. alike z (inr h)) in
    λ i. cond (alike x (inl refl) i) (x ∷ rest i) (rest i)

both_ways : (a b : Bool) → (a ≡ true → b ≡ true) → (b ≡ true → a ≡ true) → a ≡ b
both_ways true true forth back = refl
both_ways true false forth back = sym (forth refl)
both_ways false true forth back = back refl
both_ways false false forth back = refl

-- ---- one node after another

each_is : (ids : List Value) (rows : Rows) → writes.delete_entries_of ids rows ≡ record rows { entries = filter (λ e. not (list_any (λ v. has ace_node_place v e) ids)) rows.entries }
each_is [] rows = ap (λ es. record rows { entries = es }) (sym (all_kept rows.entries))
each_is (id ∷ ids) rows =
    each_is ids (writes.delete_entries id rows) ∙ ap (λ es. record rows { entries = es }) (without_two (has ace_node_place id) (λ e. list_any (λ v. has ace_node_place v e) ids) rows.entries)

by_list_total : IsTotalOrder by_list
by_list_total =
    then_total (on_total (λ (r : Row). ace_node r) value_cmp_total) (then_total (on_total (λ (r : Row). ace_protected r) value_cmp_total) (on_total (λ (r : Row). ace_place r) value_cmp_total))

module _ (id : Value) (nodes entries : List Row) where
  abbrev below : List Row
  below = filter (is_below id nodes) entries

  -- the entry is of the node of one that is below
  abbrev is_named : Row → Bool
  is_named e = list_any (λ x. has ace_node_place (ace_node x) e) below

  named_below : (e : Row) → is_named e ≡ true → is_below id nodes e ≡ true
  named_below e h =
      let x = some_has (λ x. has ace_node_place (ace_node x) e) below h in
      let f = has_filtered (is_below id nodes) entries x.0 x.1 in
      let c = some_has (λ child. is_under id child && equal Binary (rowid child) (ace_node x.0)) nodes f.1 in
      let two = and_parts (is_under id c.0) (equal Binary (rowid c.0) (ace_node x.0)) c.2 in
      let same = equal_chain (rowid c.0) (ace_node x.0) (ace_node e) two.1 (equal_back (ace_node e) (ace_node x.0) x.2) in
      any_of (λ child. is_under id child && equal Binary (rowid child) (ace_node e)) nodes c.0 c.1 (and_from _ _ two.0 same)

  below_named : (e : Row) → Has entries e → is_below id nodes e ≡ true → is_named e ≡ true
  below_named e there h =
      let c = some_has (λ child. is_under id child && equal Binary (rowid child) (ace_node e)) nodes h in
      let two = and_parts (is_under id c.0) (equal Binary (rowid c.0) (ace_node e)) c.2 in
      let itself = equal_chain (ace_node e) (rowid c.0) (ace_node e) (equal_back (rowid c.0) (ace_node e) two.1) two.1 in
      any_of (λ x. has ace_node_place (ace_node x) e) below e (has_kept (is_below id nodes) entries e there h) itself

  pub same_test : (e : Row) → Has entries e → list_any (λ v. has ace_node_place v e) (map listed_node (map listed_columns (sort_by by_list below))) ≡ is_below id nodes e
  same_test e there =
      any_mapped (λ v. has ace_node_place v e) listed_node (map listed_columns (sort_by by_list below))
      ∙ any_mapped (λ r. has ace_node_place (listed_node r) e) listed_columns (sort_by by_list below)
      ∙ list_any-IsPermutation (λ x. has ace_node_place (ace_node x) e) (sort_by by_list below) below (IsPermutation-sort_by by_list by_list_total below)
      ∙ both_ways (is_named e) (is_below id nodes e) (named_below e) (below_named e there)

pub deletes_below : (id : ℤ) (rows : Rows) → writes.delete_entries_of (map listed_node (child_entries id rows)) rows ≡ writes.delete_entries_below (Int id) rows
deletes_below id rows =
    each_is (map listed_node (child_entries id rows)) rows
    ∙ ap (λ es. record rows { entries = es }) (filter_alike _ _ rows.entries (λ e there. ap not (same_test (Int id) rows.nodes rows.entries e there)))

-- the entries that were read are taken out
pub deletes_shown : (s : State) (id : ℤ) (given shown : List Row) → ShowsChildEntries s id shown → given ≡ shown → IsBook s.now
    → writes.delete_entries_of (map listed_node given) (rows_of s.now.trees) ≡ writes.delete_entries_below (Int id) (rows_of s.now.trees)
deletes_shown s id given shown shows all book =
    ap (λ l. writes.delete_entries_of (map listed_node l) (rows_of s.now.trees)) (all ∙ shows.1 book) ∙ deletes_below id (rows_of s.now.trees)
