-- The own list of a resource: the rows give the Office with the list.
use Rattle.book_tables.proofs.Common.{◌≡◌, ◌≢◌, ℕ, ◌+◌, ℤ, pos, Bool, true, false, List, [], ◌∷◌, map, Option, Some, None, option_map, refl, sym, ap, subst, ◌∙◌, ◌&&◌, and_parts, AllByRecursion, Value, Int, next_rowid, id_in, Row, rowid, update_where, Has, all_has, all_weaker, all-append, Entry, Office, Path, IsPath, path_text, by_names, where_some, one_text, apply, resource_at, resources_stand_in_place, ace_node_place, ace_protected_place, Rows, has, is_at, is_entry, flag, with_epoch, key_is, row_at, resource_in, resource_of, list_in, entry_values, entry_of, entry_said, IsNode, IsEntry, IsRemoved, Gives}
use Rattle.std.specs.FinSet as set
use Rattle.book_office.specs.declared.edits.Edit.TheVariants.{SetList}
use Rattle.book_office.specs.Edits.{own_list_set, set_list}
use Rattle.book_office.proofs.StayingPairs.{list_pairs}
use Rattle.book_tables_rows.specs.Nodes.{SetsList, setting_list}
use Rattle.book_tables_rows.specs.Writes as writes
use Rattle.book_tables_rows.specs.Writes.{Said, entry_row}
use Rattle.book_tables_rows.proofs.WrittenLists.{written_are_read, others_stay}
use Rattle.book_tables.proofs.Acting.{Given, GivesEdited}
use Rattle.book_tables.proofs.KeptReach.{list_keeps, still_holds}
use Rattle.book_tables.proofs.ChangedNodes.{ChangesOne, relist, list_changes, same_resources}
use Rattle.book_tables.proofs.Looking.{found_has}
use Rattle.book_tables.proofs.OneOffice.{epoch_is}
use Rattle.book_tables.proofs.OneValue.{one_number}
use Rattle.book_tables.proofs.RowFacts.{kept_node, kept_entry, kept_removed, number_of_row, numbers_apart}
use Rattle.book_tables.proofs.SaidEntries.{entry_in, said_spelled, entry_is_told, entries_in_columns, entries_told}
use Rattle.book_tables.proofs.WrittenCards.{all_filter_weaker}

-- ---- the entries that are written

entries_alone : (node : Value) (place : ℕ) (list : List Said) (rows : Rows) → writes.insert_entries node place list rows ≡ record rows { entries = (writes.insert_entries node place list rows).entries }
entries_alone node place [] rows = refl
entries_alone node place (e ∷ more) rows = entries_alone node (place + 1) more (writes.insert_own node place e rows)

abbrev row_said : ℤ → Value → ℕ → Entry → Row
row_said k node place e = let s = entry_said e in entry_row k node false place s.form s.principal s.invert s.deny s.mask

all_written : (P : Row → Type 0) (node : Value) → ((k : ℤ) (place : ℕ) (e : Entry) → P (row_said k node place e)) → (place : ℕ) (list : List Entry) (rows : Rows)
    → AllByRecursion P rows.entries → AllByRecursion P (writes.insert_entries node place (map entry_said list) rows).entries
all_written P node each place [] rows all = all
all_written P node each place (e ∷ more) rows all =
    all_written P node each (place + 1) more (writes.insert_own node place (entry_said e) rows)
    (all-append P rows.entries (row_said (next_rowid rows.entries) node place e ∷ []) all (each (next_rowid rows.entries) place e, tt))

-- an own list that was written is the list
list_written : (rows : Rows) (id : ℤ) (list : List Entry) → list_in (writes.write_list (Int id) (map entry_said list) rows).entries (Int id) false ≡ list
list_written rows id list =
    entries_in_columns (writes.entries_of (writes.write_list (Int id) (map entry_said list) rows).entries (Int id) false)
    ∙ ap (map entry_in) (written_are_read rows id (map entry_said list)) ∙ entries_told list

-- a list of another node stays
list_of_other : (rows : Rows) (id k : ℤ) (list : List Said) → id ≢ k → (protected : Bool) → list_in (writes.write_list (Int id) list rows).entries (Int k) protected ≡ list_in rows.entries (Int k) protected
list_of_other rows id k list apart protected = ap (map entry_of) (others_stay rows id list (Int k) protected (λ row own.
    ap (λ b. b && has ace_protected_place (flag protected) row) (one_number 1 row id k apart (and_parts (has ace_node_place (Int id) row) (has ace_protected_place (flag false) row) own).0)))

list_protected : (rows : Rows) (id : ℤ) (list : List Said) → list_in (writes.write_list (Int id) list rows).entries (Int id) true ≡ list_in rows.entries (Int id) true
list_protected rows id list = ap (map entry_of) (others_stay rows id list (Int id) true (λ row own.
    let its = and_parts (has ace_node_place (Int id) row) (has ace_protected_place (flag false) row) own in
    ap (λ b. b && has ace_protected_place (flag true) row) its.0 ∙ one_number 2 row (pos 0) (pos 1) (λ e. cc) its.1))

-- ---- the rows

module _ (p : Path) (list : List Entry) (rows : Rows) (o : Office) (given : Given rows o (SetList p list)) (node : Row) (at_node : row_at rows (path_text p) ≡ Some node) (id : ℤ) (id_is : rowid node ≡ Int id) where
  abbrev at : List ℕ
  at = path_text p

  abbrev said : List Said
  said = map entry_said list

  abbrev entries : List Row
  entries = (writes.write_list (Int id) said rows).entries

  abbrev pub after : Rows
  after = record rows { entries = entries; meta = update_where (λ _. true) (with_epoch (o.epoch + 1)) rows.meta }

  pub after_is : writes.set_list_rows (Int id) said (o.epoch + 1) rows ≡ after
  after_is = ap (writes.set_epoch (o.epoch + 1)) (entries_alone (Int id) 0 said (writes.delete_own (Int id) rows))

  abbrev o' : Office
  o' = set_list p list o

  is_path : IsPath p
  is_path = where_some (resource_at o p) given.fits.possible (λ r is. (resources_stand_in_place o given.sound p r is).named)

  changes : ChangesOne o (own_list_set p list o) p (relist list)
  changes = list_changes p list o

  node_there : Has rows.nodes node
  node_there = (found_has (is_at at) rows.nodes node at_node).0

  list_here : list_in entries (rowid node) false ≡ list
  list_here = ap (λ v. list_in entries v false) id_is ∙ list_written rows id list

  protected_here : list_in entries (rowid node) true ≡ list_in rows.entries (rowid node) true
  protected_here = ap (λ v. list_in entries v true) id_is ∙ list_protected rows id said ∙ ap (λ v. list_in rows.entries v true) (sym id_is)

  node_then : resource_of entries node ≡ relist list (resource_of rows.entries node)
  node_then = λ i. record (resource_of rows.entries node) { protected = protected_here i; own = list_here i }

  -- the row at another path has its lists
  elsewhere : (t : List ℕ) (found : Option Row) → row_at rows t ≡ found → t ≢ at → option_map (resource_of entries) found ≡ option_map (resource_of rows.entries) found
  elsewhere t None is apart = refl
  elsewhere t (Some r) is apart =
      let k = number_of_row rows given.gives.nodes given.nodes.shaped t r is in
      let other : id ≢ k.0 = λ e. apart (numbers_apart rows given.gives.nodes given.nodes.shaped t at r node is at_node (k.1 ∙ ap Int (sym e) ∙ sym id_is)) in
      let stays : (pr : Bool) → list_in entries (rowid r) pr ≡ list_in rows.entries (rowid r) pr =
      λ pr. ap (λ v. list_in entries v pr) k.1 ∙ list_of_other rows id k.0 said other pr ∙ ap (λ v. list_in rows.entries v pr) (sym k.1) in
      ap Some (λ i. record (resource_of rows.entries r) { protected = stays true i; own = stays false i })

  resources : (q : Path) → IsPath q → resource_in after (path_text q) ≡ resource_at o' q
  resources q is_q = by_names (path_text q) at (λ _. resource_in after (path_text q) ≡ resource_at o' q)
      (λ is.
      let same_path : q ≡ p = one_text q p is_q is_path is in
      ap (λ t. option_map (resource_of entries) (row_at rows t)) is ∙ ap (option_map (resource_of entries)) at_node ∙ ap Some node_then
      ∙ ap (option_map (relist list)) (sym (ap (option_map (resource_of rows.entries)) at_node) ∙ given.gives.resources p is_path)
      ∙ sym changes.here ∙ ap (resource_at (own_list_set p list o)) (sym same_path) ∙ sym (same_resources (own_list_set p list o) (own_list_set p list o).pairs (o.epoch + 1) q))
      (λ differs.
      elsewhere (path_text q) (row_at rows (path_text q)) refl differs ∙ given.gives.resources q is_q
      ∙ sym (changes.elsewhere q (λ is. differs (ap path_text (sym is)))) ∙ sym (same_resources (own_list_set p list o) (own_list_set p list o).pairs (o.epoch + 1) q))

  new_entry : (k : ℤ) (place : ℕ) (e : Entry) → IsEntry after (row_said k (Int id) place e)
  new_entry k place e = record {
    node = node;
    there = node_there;
    its = sym id_is;
    list = false;
    protected = refl;
    place = refl;
    spelled = said_spelled e ∙ ap entry_values (sym (entry_is_told e));
  }

  pub gives_listed : Gives after o'
  gives_listed = record {
    nodes = all_weaker (IsNode rows) (IsNode after) (kept_node rows after (λ t r found. (r, found, refl))) rows.nodes given.gives.nodes;
    entries = all_written (IsEntry after) (Int id) new_entry 0 list (writes.delete_own (Int id) rows)
        (all_filter_weaker (IsEntry rows) (IsEntry after) (kept_entry rows after (λ x there. (x, there, refl))) (is_entry (Int id) false) rows.entries given.gives.entries);
    removed = all_weaker (IsRemoved rows) (IsRemoved after) (kept_removed rows after (λ t r found. (r, found, refl))) rows.gone given.gives.removed;
    resources = resources;
    members = λ m. given.gives.members m ∙ ap (λ pairs. set.contains pairs m) (sym changes.pairs);
    gone = λ a name named. given.gives.gone a name named ∙ sym (changes.removed a name);
    meta = (given.gives.meta.0, ap (update_where (λ _. true) (with_epoch (o.epoch + 1))) given.gives.meta.1);
  }

module _ (p : Path) (list : List Entry) (rows after : Rows) (o : Office) (given : Given rows o (SetList p list)) (made : SetsList rows after (path_text p) (map entry_said list)) where
  listing_gives : Gives after (apply o (SetList p list))
  listing_gives =
      let id = id_in (rowid made.node) in
      let number = key_is made.node (all_has _ rows.nodes made.node given.nodes.shaped.1 (found_has (is_at (path_text p)) rows.nodes made.node made.there).0) in
      let epoch = epoch_is rows.meta made.epoch o.epoch made.meta given.gives.meta in
      let is = made.rows_are ∙ ap (λ n. writes.set_list_rows (Int id) (map entry_said list) (n + 1) rows) epoch ∙ after_is p list rows o given made.node made.there id number in
      subst (λ r. Gives r (apply o (SetList p list))) (sym is) (gives_listed p list rows o given made.node made.there id number)

pub lists_node : (p : Path) (list : List Entry) → GivesEdited (SetList p list) (setting_list (path_text p) (map entry_said list))
lists_node p list = record {
  fits = λ rows o given. record { meta = (o.epoch, given.gives.meta) };
  gives = λ rows after o given made. listing_gives p list rows after o given made;
  reach = λ rows after o given made holds. still_holds rows after o.pairs (apply o (SetList p list)).pairs (list_keeps rows after (path_text p) (map entry_said list) made) (list_pairs p list o) holds;
}
