-- The lists of an Office of the rows: short, and of principals that are there.
use Rattle.book_tables_opening.proofs.Common.{◌≡◌, ℕ, ℤ, ◌≤◌, Bool, true, List, [], ◌∷◌, filter, length, Some, sym, ap, subst, ◌∙◌, arith, AllByRecursion, and_parts, Value, Int, id_in, Row, column, rowid, IsShaped, Has, all_has, all_from, has_filtered, MAX_ENTRIES, Entry, Office, IsKnownForm, IsSoundList, ace_deny, ace_form, ace_invert, ace_mask, ace_node, ace_place, ace_principal, ace_protected, ace_protected_place, entry_principal, Rows, has, is_entry, by_place, flag, entries_shown, entry_of, list_in, flag_in, Gives, same_ints, has_map, has_mapped, shown_with, IsNodeRow, IsEntryRow, Key, same_key, AreAtMost, list_keys, shown_protected, whole_nodes}
use Rattle.std.specs.Cmp.{IsTotalOrder}
use Rattle.std.proofs.lemmas.List.Elements.{All-from_recursion}
use Rattle.std.proofs.lemmas.List.Sorted.{length_permutation}
use Rattle.sqlite_trees.specs.declared.store.Shape.TheVariants.{Table as TableShape}
use Rattle.sqlite_keyed.proofs.SortLemmas.{IsPermutation-sort_by}
use Rattle.sqlite_value.proofs.OrderLemmas.{value_cmp_total}
use Rattle.book_tables_rows.specs.Writes.{entries_of}
use Rattle.book_tables_rows.proofs.Shapes.{int_of}
use Rattle.book_tables.proofs.SameLists.{has_sorted}
use Rattle.book_tables.proofs.ChildShares.{flag_is}
use Rattle.book_tables_opening.specs.Shown.{shown_node}
use Rattle.book_tables_opening.proofs.CountedRows.{count_keys, same_keys, at_most}
use Rattle.book_tables_opening.proofs.RowsOfPaths.{form_known}
use Rattle.book_tables_opening.proofs.ShownNodes.{node_of_is}
use Rattle.std.proofs.lemmas.List.{length-map}

pub by_place_total : IsTotalOrder by_place
by_place_total = record {
  antisymm = λ a b. value_cmp_total.antisymm (ace_place a) (ace_place b);
  trans = λ a b c. value_cmp_total.trans (ace_place a) (ace_place b) (ace_place c);
  congr = λ a b c. value_cmp_total.congr (ace_place a) (ace_place b) (ace_place c);
}

pub length_list : (entries : List Row) (v : Value) (list : Bool) → length (list_in entries v list) ≡ length (filter (is_entry v list) entries)
length_list entries v list = length-map (entries_of entries v list) entry_of ∙ sym (length_permutation (entries_of entries v list) (filter (is_entry v list) entries) (IsPermutation-sort_by by_place by_place_total (filter (is_entry v list) entries)))

-- the value of a flag tells its number
flag_told : (row : Row) (b c : Bool) → ace_protected row ≡ flag b → has ace_protected_place (flag c) row ≡ true → id_in (ace_protected row) ≡ id_in (flag c)
flag_told row b c is passes =
    ap id_in is ∙ same_ints 2 row (id_in (flag b)) (id_in (flag c)) (is ∙ flag_is b) (ap (λ v. has ace_protected_place v row) (sym (flag_is c)) ∙ passes)

module _ (rows : Rows) (o : Office) (gives : Gives rows o) (shaped : IsShaped TableShape rows.nodes)
    (nodes_are : AllByRecursion (IsNodeRow (whole_nodes rows)) (whole_nodes rows)) where
  -- a value at which a shown node is found is a whole number
  pub int_there : (v : Value) (node : Row) → shown_with (whole_nodes rows) v ≡ Some node → (n : ℤ) × (v ≡ Int n)
  int_there v node there =
      let row = node_of_is rows v node there in
      let number = int_of (rowid row.0) (all_has _ rows.nodes row.0 shaped.1 row.1) in
      (number.0, row.3 ∙ number.1)

  -- a value at which a shown node is found, and that is the number of a row, is it
  pub same_number : (place : ℕ) (x : Row) (node : Row) → shown_with (whole_nodes rows) (column x place) ≡ Some node → (id : ℤ) → has place (Int id) x ≡ true → column x place ≡ Int id
  same_number place x node there id passes =
      let number = int_there (column x place) node there in
      number.1 ∙ ap Int (same_ints place x number.0 id number.1 passes)

  module _ (entries_are : AllByRecursion (IsEntryRow (whole_nodes rows)) (entries_shown rows)) (lists : AreAtMost MAX_ENTRIES (list_keys (entries_shown rows))) where
    abbrev shown : Row → Row
    shown row = ace_node row ∷ ace_protected row ∷ ace_place row ∷ ace_form row ∷ ace_principal row ∷ ace_invert row ∷ ace_deny row ∷ ace_mask row ∷ []

    entry_row : (x : Row) → Has rows.entries x → IsEntryRow (whole_nodes rows) (shown x)
    entry_row x there = all_has (IsEntryRow (whole_nodes rows)) (entries_shown rows) (shown x) entries_are (has_map shown rows.entries x there)

    key_of : (id : ℤ) (list : Bool) (x : Row) → Has rows.entries x → is_entry (Int id) list x ≡ true → ◌≡◌ {A = Key} (id_in (ace_node x), id_in (ace_protected x)) (id, id_in (flag list))
    key_of id list x there passes =
        let it = entry_row x there in
        let both = and_parts _ _ passes in
        let node : id_in (ace_node x) ≡ id = ap id_in (same_number 1 x it.node it.there id both.0) in
        let which = flag_told x (flag_in (ace_protected x)) list it.spelled.protected both.1 in
        λ i. (node i, which i)

    few_of : (id : ℤ) (list : Bool) → length (filter (is_entry (Int id) list) rows.entries) ≤ MAX_ENTRIES
    few_of id list =
        let k : Key = (id, id_in (flag list)) in
        let counted = count_keys shown (λ row. (id_in (shown_node row), id_in (shown_protected row))) (same_key k) (is_entry (Int id) list) rows.entries
        (λ x there passes. same_keys k _ (sym (key_of id list x there passes))) in
        let few = at_most MAX_ENTRIES (list_keys (entries_shown rows)) lists k in
        omega (arith, counted, few)

    entry_known : (x : Row) → Has rows.entries x → IsKnownForm o (entry_of x).who
    entry_known x there =
        let it = entry_row x there in
        form_known rows nodes_are o gives (entry_of x).who (ace_principal x) (ap entry_principal it.spelled.spelled) it.principal

    pub sound_list : (row : Row) → Has rows.nodes row → (list : Bool) → IsSoundList o (list_in rows.entries (rowid row) list)
    sound_list row there list =
        let number = int_of (rowid row) (all_has _ rows.nodes row shaped.1 there) in
        record {
          few = subst (λ v. length (list_in rows.entries v list) ≤ MAX_ENTRIES) (sym number.1) (subst (λ n. n ≤ MAX_ENTRIES) (sym (length_list rows.entries (Int number.0) list)) (few_of number.0 list));
          known = All-from_recursion _ _ (all_from (λ (e : Entry). IsKnownForm o e.who) (list_in rows.entries (rowid row) list) (λ e in_list.
              let x = has_mapped entry_of (entries_of rows.entries (rowid row) list) e in_list in
              let in_filter = has_sorted by_place by_place_total (filter (is_entry (rowid row) list) rows.entries) x.0 x.1 in
              subst (λ (e : Entry). IsKnownForm o e.who) (sym x.2) (entry_known x.0 (has_filtered (is_entry (rowid row) list) rows.entries x.0 in_filter).0)));
        }
