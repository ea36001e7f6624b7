-- The lists of a sound Office's rows are short.
use Rattle.book_tables_opening.proofs.Common.{◌≡◌, ℕ, ℤ, ◌≤◌, Bool, true, false, ◌&&◌, [], ◌∷◌, filter, length, sym, ap, subst, ◌∙◌, arith, Value, Int, id_in, Database, Row, column, rowid, Has, all_has, MAX_ENTRIES, Office, IsSound, ace_deny, ace_form, ace_invert, ace_mask, ace_node, ace_place, ace_principal, ace_protected, Rows, rows_of, has, IsBook, is_entry, flag, int_itself, entries_shown, list_in, resource_of, IsNode, IsEntry, Gives, nodes_of, its_resource, has_int, Key, same_key, AreAtMost, list_keys, shown_protected}
use Rattle.book_tables_rows.proofs.Shapes.{int_of}
use Rattle.book_tables.proofs.ChildShares.{flag_is}
use Rattle.book_tables_opening.specs.Shown.{shown_node}
use Rattle.book_tables_opening.proofs.CountedRows.{count_shown, count_bounded, count_weaker, are_at_most}
use Rattle.book_tables_opening.proofs.Counts.{is_key}
use Rattle.book_tables_opening.proofs.HeldResources.{held_resource}
use Rattle.book_tables_opening.proofs.ListRows.{length_list}

abbrev entry_shown : Row → Row
entry_shown row = ace_node row ∷ ace_protected row ∷ ace_place row ∷ ace_form row ∷ ace_principal row ∷ ace_invert row ∷ ace_deny row ∷ ace_mask row ∷ []

abbrev list_key : Row → Key
list_key row = (id_in (shown_node row), id_in (shown_protected row))

-- a column with a number has it
pub has_number : (place : ℕ) (row : Row) (v : Value) (n : ℤ) → column row place ≡ Int n → v ≡ Int n → has place v row ≡ true
has_number place row v n is v_is = ap (λ w. has place w row) v_is ∙ has_int place row n n is ∙ int_itself n

module _ (db : Database) (book : IsBook db) (o : Office) (gives : Gives (rows_of db.trees) o) (sound : IsSound o) where
  abbrev rows : Rows
  rows = rows_of db.trees

  -- the number of a node's row
  node_number : (row : Row) → Has rows.nodes row → (n : ℤ) × (rowid row ≡ Int n)
  node_number row there = int_of (rowid row) (all_has _ rows.nodes row (nodes_of db book).shaped.1 there)

  -- the list of a node is short
  short_list : (row : Row) → Has rows.nodes row → (list : Bool) → length (filter (is_entry (rowid row) list) rows.entries) ≤ MAX_ENTRIES
  short_list row there list =
      let node = all_has (IsNode rows) rows.nodes row gives.nodes there in
      let held = held_resource o sound node.0 (resource_of rows.entries row) (its_resource rows o gives (nodes_of db book) sound node.0 node.1.named row node.0 there node.1) in
      let few : (b : Bool) → length (list_in rows.entries (rowid row) b) ≤ MAX_ENTRIES = λ b. elim b as (λ c. length (list_in rows.entries (rowid row) c) ≤ MAX_ENTRIES) [ true ↦ held.protected.few | false ↦ held.own.few ] in
      subst (λ n. n ≤ MAX_ENTRIES) (length_list rows.entries (rowid row) list) (few list)

  entry_is : (x : Row) → Has rows.entries x → IsEntry rows x
  entry_is x there = all_has (IsEntry rows) rows.entries x gives.entries there

  -- an entry with the key of another is in the other's list
  same_list : (x y : Row) (in_x : Has rows.entries x) → Has rows.entries y → list_key (entry_shown x) ≡ list_key (entry_shown y) → is_entry (rowid (entry_is x in_x).node) (entry_is x in_x).list y ≡ true
  same_list x y in_x in_y same =
      let a = entry_is x in_x in
      let b = entry_is y in_y in
      let m = node_number a.node a.there in
      let n = node_number b.node b.there in
      let node : n.0 ≡ m.0 = sym (ap id_in (b.its ∙ n.1)) ∙ sym (ap (λ k. k.0) same) ∙ ap id_in (a.its ∙ m.1) in
      let which : id_in (flag b.list) ≡ id_in (flag a.list) = sym (ap id_in b.protected) ∙ sym (ap (λ k. k.1) same) ∙ ap id_in a.protected in
      let first = has_number 1 y (rowid a.node) m.0 (b.its ∙ n.1 ∙ ap Int node) m.1 in
      let second = has_number 2 y (flag a.list) (id_in (flag a.list)) (b.protected ∙ flag_is b.list ∙ ap Int which) (flag_is a.list) in
      λ i. first i && second i

  few_entries : (k : Key) → length (filter (λ x. same_key k (list_key (entry_shown x))) rows.entries) ≤ MAX_ENTRIES
  few_entries k = count_bounded (λ x. same_key k (list_key (entry_shown x))) MAX_ENTRIES rows.entries (λ x in_x passes.
      let fewer = count_weaker (λ z. same_key k (list_key (entry_shown z))) (is_entry (rowid (entry_is x in_x).node) (entry_is x in_x).list) rows.entries
      (λ y in_y also. same_list x y in_x in_y (sym (is_key k _ passes) ∙ is_key k _ also)) in
      let short = short_list (entry_is x in_x).node (entry_is x in_x).there (entry_is x in_x).list in
      omega (arith, fewer, short))

  pub lists : AreAtMost MAX_ENTRIES (list_keys (entries_shown rows))
  lists = are_at_most MAX_ENTRIES (list_keys (entries_shown rows)) (λ k.
      subst (λ n. n ≤ MAX_ENTRIES) (sym (count_shown list_key (same_key k) (entries_shown rows) ∙ count_shown entry_shown (λ y. same_key k (list_key y)) rows.entries)) (few_entries k))
