-- The rows after both lists of places were written: at each of their paths the resource has the lists.
use Rattle.book_tables.proofs.Common.{◌≡◌, ◌≢◌, ℕ, ◌+◌, ℤ, Bool, true, false, cond, ◌&&◌, List, [], ◌∷◌, map, Option, Some, None, option_map, refl, sym, ap, subst, ◌∙◌, AllByRecursion, Value, Int, next_rowid, id_in, Row, rowid, Has, all_has, all_weaker, all-append, Entry, Properties, Path, path_text, same, by_names, by_option, Resource, in_turn, ace_node_place, ace_protected_place, Rows, has, is_at, flag, key_is, Compared, lists_said, row_at, resource_in, resource_of, list_in, entry_values, entry_of, entry_said, IsNode, IsEntry, IsRemoved}
use Rattle.book_tables_rows.specs.Adopting.{Listed, list_found, write_lists}
use Rattle.book_tables_rows.specs.Writes.{Said, entry_row, delete_entries, insert_listed, insert_list, write_both}
use Rattle.book_tables_rows.proofs.WrittenBoth.{both_are_read, other_lists_stay}
use Rattle.book_tables.proofs.Looking.{found_has}
use Rattle.book_tables.proofs.OneValue.{one_number}
use Rattle.book_tables.proofs.RowFacts.{kept_node, kept_entry, kept_removed, number_of_row, numbers_apart}
use Rattle.book_tables.proofs.SaidEntries.{entry_in, said_spelled, entry_is_told, entries_in_columns, entries_told}
use Rattle.book_tables.proofs.Turns.{turned}
use Rattle.book_tables.proofs.WellRows.{AreWell, Rewrites, rewrites_nothing, rewrites_both}
use Rattle.book_tables.proofs.WrittenCards.{all_filter_weaker}

-- ---- the entries that are written

list_alone : (node : Value) (list : Bool) (place : ℕ) (entries : List Said) (rows : Rows) → insert_list node list place entries rows ≡ record rows { entries = (insert_list node list place entries rows).entries }
list_alone node list place [] rows = refl
list_alone node list place (e ∷ more) rows = list_alone node list (place + 1) more (insert_listed node list place e rows)

abbrev row_said : ℤ → Value → Bool → ℕ → Entry → Row
row_said k node list place e = let s = entry_said e in entry_row k node list place s.form s.principal s.invert s.deny s.mask

all_listed : (P : Row → Type 0) (node : Value) (list : Bool) → ((k : ℤ) (place : ℕ) (e : Entry) → P (row_said k node list place e)) → (place : ℕ) (entries : List Entry) (rows : Rows)
    → AllByRecursion P rows.entries → AllByRecursion P (insert_list node list place (map entry_said entries) rows).entries
all_listed P node list each place [] rows all = all
all_listed P node list each place (e ∷ more) rows all =
    all_listed P node list each (place + 1) more (insert_listed node list place (entry_said e) rows)
    (all-append P rows.entries (row_said (next_rowid rows.entries) node list place e ∷ []) all (each (next_rowid rows.entries) place e, tt))

abbrev pub relisted : Properties → Resource → Resource
relisted properties r = record r { protected = properties.protected; own = properties.own }

abbrev pub list_at : Path → Properties → List ℕ → Option Resource → Option Resource
list_at p properties t r = cond (same t (path_text p)) (option_map (relisted properties) r) r

-- ---- one place

module _ (rows : Rows) (well : AreWell rows) (p : Path) (properties : Properties) (node : Row) (at_node : row_at rows (path_text p) ≡ Some node) where
  abbrev at : List ℕ
  at = path_text p

  abbrev id : ℤ
  id = id_in (rowid node)

  abbrev protected : List Said
  protected = map entry_said properties.protected

  abbrev own : List Said
  own = map entry_said properties.own

  abbrev entries : List Row
  entries = (write_both (Int id) protected own rows).entries

  abbrev after : Rows
  after = record rows { entries = entries }

  node_there : Has rows.nodes node
  node_there = (found_has (is_at at) rows.nodes node at_node).0

  id_is : rowid node ≡ Int id
  id_is = key_is node (all_has _ rows.nodes node well.shaped.1 node_there)

  after_is : write_both (Int id) protected own rows ≡ after
  after_is =
      let first = insert_list (Int id) true 0 protected (delete_entries (Int id) rows) in
      list_alone (Int id) false 0 own first ∙ ap (λ (r : Rows). record r { entries = entries }) (list_alone (Int id) true 0 protected (delete_entries (Int id) rows))

  -- a list that was written is the list
  own_here : list_in entries (rowid node) false ≡ properties.own
  own_here = ap (λ v. list_in entries v false) id_is
      ∙ entries_in_columns (Rattle.book_tables_rows.specs.Writes.entries_of entries (Int id) false)
      ∙ ap (map entry_in) (both_are_read rows id protected own).1 ∙ entries_told properties.own

  protected_here : list_in entries (rowid node) true ≡ properties.protected
  protected_here = ap (λ v. list_in entries v true) id_is
      ∙ entries_in_columns (Rattle.book_tables_rows.specs.Writes.entries_of entries (Int id) true)
      ∙ ap (map entry_in) (both_are_read rows id protected own).0 ∙ entries_told properties.protected

  node_then : resource_of entries node ≡ relisted properties (resource_of rows.entries node)
  node_then = λ i. record (resource_of rows.entries node) { protected = protected_here i; own = own_here i }

  -- a list of another node stays
  other_list : (k : ℤ) → id ≢ k → (list : Bool) → list_in entries (Int k) list ≡ list_in rows.entries (Int k) list
  other_list k apart list = ap (map entry_of) (other_lists_stay rows id protected own (Int k) list (λ row its. ap (λ b. b && has ace_protected_place (flag list) row) (one_number 1 row id k apart its)))

  elsewhere : (t : List ℕ) → t ≢ at → resource_in after t ≡ resource_in rows t
  elsewhere t apart = by_option (row_at rows t)
      (λ none. ap (option_map (resource_of entries)) none ∙ sym (ap (option_map (resource_of rows.entries)) none))
      (λ r found.
      let k = number_of_row rows well.nodes well.shaped t r found in
      let other : id ≢ k.0 = λ e. apart (numbers_apart rows well.nodes well.shaped t at r node found at_node (k.1 ∙ ap Int (sym e) ∙ sym id_is)) in
      let stays : (list : Bool) → list_in entries (rowid r) list ≡ list_in rows.entries (rowid r) list =
      λ list. ap (λ v. list_in entries v list) k.1 ∙ other_list k.0 other list ∙ ap (λ v. list_in rows.entries v list) (sym k.1) in
      let is : resource_of entries r ≡ resource_of rows.entries r = λ i. record (resource_of rows.entries r) { protected = stays true i; own = stays false i } in
      ap (option_map (resource_of entries)) found ∙ ap Some is ∙ sym (ap (option_map (resource_of rows.entries)) found))

  resources : (t : List ℕ) → resource_in after t ≡ list_at p properties t (resource_in rows t)
  resources t = by_names t at (λ b. resource_in after t ≡ cond b (option_map (relisted properties) (resource_in rows t)) (resource_in rows t))
      (λ is.
      let found : row_at rows t ≡ Some node = ap (row_at rows) is ∙ at_node in
      ap (option_map (resource_of entries)) found ∙ ap Some node_then ∙ ap (option_map (relisted properties)) (sym (ap (option_map (resource_of rows.entries)) found)))
      (elsewhere t)

  new_entry : (list : Bool) (k : ℤ) (place : ℕ) (e : Entry) → IsEntry after (row_said k (Int id) list place e)
  new_entry list k place e = record {
    node = node;
    there = node_there;
    its = sym id_is;
    list = list;
    protected = refl;
    place = refl;
    spelled = said_spelled e ∙ ap entry_values (sym (entry_is_told e));
  }

  well_then : AreWell after
  well_then = record {
    nodes = all_weaker (IsNode rows) (IsNode after) (kept_node rows after (λ t r found. (r, found, refl))) rows.nodes well.nodes;
    entries = all_listed (IsEntry after) (Int id) false (new_entry false) 0 properties.own (insert_list (Int id) true 0 protected (delete_entries (Int id) rows))
        (all_listed (IsEntry after) (Int id) true (new_entry true) 0 properties.protected (delete_entries (Int id) rows)
        (all_filter_weaker (IsEntry rows) (IsEntry after) (kept_entry rows after (λ x there. (x, there, refl))) (has ace_node_place (Int id)) rows.entries well.entries));
    removed = all_weaker (IsRemoved rows) (IsRemoved after) (kept_removed rows after (λ t r found. (r, found, refl))) rows.gone well.removed;
    shaped = well.shaped;
  }

  relisted_there : Rewrites rows after (list_at p properties)
  relisted_there = record {
    well = well_then;
    resources = resources;
    numbers = λ t r found. (r, found, refl);
    removed = λ b name named. refl;
    members = refl;
    meta = refl;
  }

-- ---- places in turn

abbrev pub lists_of : Compared → Listed
lists_of place = lists_said place.path place.new

lists_written : (rows : Rows) → AreWell rows → (p : Path) (properties : Properties) → Rewrites rows (write_lists (lists_said p properties) rows) (list_at p properties)
lists_written rows well p properties = by_option (row_at rows (path_text p))
    (λ none. subst (λ r. Rewrites rows r (list_at p properties)) (sym (ap (λ r. list_found r (lists_said p properties) rows) none)) (record {
      well = well;
      resources = λ t. by_names t (path_text p) (λ b. resource_in rows t ≡ cond b (option_map (relisted properties) (resource_in rows t)) (resource_in rows t))
          (λ is. let nothing : resource_in rows t ≡ None = ap (option_map (resource_of rows.entries)) (ap (row_at rows) is ∙ none) in nothing ∙ sym (ap (option_map (relisted properties)) nothing))
          (λ _. refl);
      numbers = λ t r found. (r, found, refl);
      removed = λ b name named. refl;
      members = refl;
      meta = refl;
    }))
    (λ node found. subst (λ r. Rewrites rows r (list_at p properties)) (sym (ap (λ r. list_found r (lists_said p properties) rows) found ∙ after_is rows well p properties node found)) (relisted_there rows well p properties node found))

abbrev pub each_list_at : List Compared → List ℕ → Option Resource → Option Resource
each_list_at places t = turned (λ (place : Compared). list_at place.path place.new t) places

pub all_lists_written : (places : List Compared) (rows : Rows) → AreWell rows → Rewrites rows (in_turn write_lists (map lists_of places) rows) (each_list_at places)
all_lists_written [] rows well = rewrites_nothing rows well
all_lists_written (place ∷ places) rows well =
    let first = lists_written rows well place.path place.new in
    let between = write_lists (lists_of place) rows in
    rewrites_both rows between (in_turn write_lists (map lists_of places) between) (list_at place.path place.new) (each_list_at places) first (all_lists_written places between first.well)
