-- The label of a resource that is no card: the rows give the Office with the label.
use Rattle.book_tables.proofs.Common.{◌≡◌, ◌≢◌, ℕ, true, false, cond, List, Option, Some, None, option_map, refl, sym, ap, subst, ◌∙◌, same_Some, Row, rowid, all_weaker, Office, Path, IsPath, path_text, book_path, one_text, same_itself, by_names, where_some, SetLabel, apply, resource_at, resources_stand_in_place, node_number, Rows, number_in, is_at, row_at, resource_in, resource_of, removed_from, IsNode, IsEntry, IsRemoved, Gives}
use Rattle.book_office.specs.Edits.{set_label}
use Rattle.book_office.proofs.StayingPairs.{label_pairs}
use Rattle.book_tables_rows.specs.Nodes.{labelling_node}
use Rattle.book_tables_rows.specs.Writes as writes
use Rattle.book_tables_rows.specs.Writes.{with_label}
use Rattle.book_tables.proofs.Acting.{Given, GivesEdited}
use Rattle.book_tables.proofs.KeptReach.{label_keeps, still_holds}
use Rattle.book_tables.proofs.ChangedNodes.{IsOther, ChangesOne, relabel, label_changes}
use Rattle.book_tables.proofs.RowFacts.{apart, KeepsNumbers, KeepsRows, kept_node, kept_entry, kept_removed, has_updated, all_updated, is_at_found}
use Rattle.book_tables.proofs.WrittenCards.{KeepsColumns, node_changed, row_changed}

pub map_twice : {A B C : Type 0} (f : A → B) (g : B → C) (r : Option A) → option_map g (option_map f r) ≡ option_map (λ x. g (f x)) r
map_twice f g None = refl
map_twice f g (Some x) = refl

-- ---- rows

module _ (p : Path) (other : IsOther p) (label : List ℕ) (rows : Rows) (o : Office) (given : Given rows o (SetLabel p label)) (node : Row) (at_node : row_at rows (path_text p) ≡ Some node) where
  abbrev at : List ℕ
  at = path_text p

  abbrev n : ℕ
  n = number_in (node_number node)

  abbrev pub after : Rows
  after = writes.set_label_rows at label n rows

  abbrev o' : Office
  o' = set_label p label o

  is_path : IsPath p
  is_path = where_some (resource_at o p) given.fits.possible (λ r is. (resources_stand_in_place o given.sound p r is).named)

  changes : ChangesOne o o' p (relabel label)
  changes = label_changes p other label o

  columns : KeepsColumns (with_label label n)
  columns = record { id = λ r. refl; path = λ r. refl; parent = λ r. refl; kind = λ r. refl; number = λ r. refl }

  abbrev upd : Row → Row
  upd r = cond (is_at at r) (with_label label n r) r

  found_then : (t : List ℕ) → row_at after t ≡ option_map upd (row_at rows t)
  found_then t = row_changed rows.nodes at t (with_label label n) columns

  untouched : (t : List ℕ) (found : Option Row) → row_at rows t ≡ found → t ≢ at → option_map upd found ≡ found
  untouched t None is h = refl
  untouched t (Some r) is h = ap (λ x. Some (cond x (with_label label n r) r)) (is_at_found rows given.gives.nodes given.nodes.shaped t at r is ∙ apart t at h)

  node_then : row_at after at ≡ Some (with_label label n node)
  node_then = found_then at ∙ ap (option_map upd) at_node
      ∙ ap (λ t. Some (cond t (with_label label n node) node)) (is_at_found rows given.gives.nodes given.nodes.shaped at at node at_node ∙ same_itself at)

  keeps_numbers : KeepsNumbers rows after
  keeps_numbers t r found = by_names t at (λ _. (s : Row) × (row_at after t ≡ Some s) × (rowid s ≡ rowid r))
      (λ is. (with_label label n node, ap (row_at after) is ∙ node_then, ap rowid (same_Some _ _ (sym at_node ∙ sym (ap (row_at rows) is) ∙ found))))
      (λ differs. (r, found_then t ∙ untouched t (row_at rows t) refl differs ∙ found, refl))

  keeps_rows : KeepsRows rows after
  keeps_rows x there = has_updated (is_at at) (with_label label n) (λ r. refl) rows.nodes x there

  resources : (q : Path) → IsPath q → resource_in after (path_text q) ≡ resource_at o' q
  resources q is_q = by_names (path_text q) at (λ _. resource_in after (path_text q) ≡ resource_at o' q)
      (λ is.
      let same_path : q ≡ p = one_text q p is_q is_path is in
      ap (resource_in after) is ∙ ap (option_map (resource_of rows.entries)) node_then
      ∙ ap (option_map (relabel label)) (sym (ap (option_map (resource_of rows.entries)) at_node) ∙ given.gives.resources p is_path)
      ∙ sym changes.here ∙ ap (resource_at o') (sym same_path))
      (λ differs.
      ap (option_map (resource_of rows.entries)) (found_then (path_text q) ∙ untouched (path_text q) (row_at rows (path_text q)) refl differs) ∙ given.gives.resources q is_q
      ∙ sym (changes.elsewhere q (λ is. differs (ap path_text (sym is)))))

  same_book : (name : List ℕ) (found : Option Row) → removed_from rows.gone name (option_map upd found) ≡ removed_from rows.gone name found
  same_book name None = refl
  same_book name (Some r) = elim (is_at at r) as (λ t. removed_from rows.gone name (Some (cond t (with_label label n r) r)) ≡ removed_from rows.gone name (Some r)) [ true ↦ refl | false ↦ refl ]

  pub gives_labelled : Gives after o'
  gives_labelled = record {
    nodes = all_updated (IsNode after) (is_at at) (with_label label n) (node_changed after (with_label label n) columns) rows.nodes
        (all_weaker (IsNode rows) (IsNode after) (kept_node rows after keeps_numbers) rows.nodes given.gives.nodes);
    entries = all_weaker (IsEntry rows) (IsEntry after) (kept_entry rows after keeps_rows) rows.entries given.gives.entries;
    removed = all_weaker (IsRemoved rows) (IsRemoved after) (kept_removed rows after keeps_numbers) rows.gone given.gives.removed;
    resources = resources;
    members = λ m. given.gives.members m ∙ ap (λ pairs. Rattle.std.specs.FinSet.contains pairs m) (sym changes.pairs);
    gone = λ a name named. ap (removed_from rows.gone name) (found_then (book_path a)) ∙ same_book name (row_at rows (book_path a)) ∙ given.gives.gone a name named ∙ sym (changes.removed a name);
    meta = subst (Rattle.book_tables_rows.specs.Writes.IsMeta rows.meta) (sym changes.epoch) given.gives.meta;
  }

pub labels_node : (p : Path) → IsOther p → (label : List ℕ) → GivesEdited (SetLabel p label) (labelling_node (path_text p) label)
labels_node p other label = record {
  fits = λ rows o given. tt;
  gives = λ rows after o given made. subst (λ r. Gives r (apply o (SetLabel p label))) (sym made.rows_are) (gives_labelled p other label rows o given made.node made.there);
  reach = λ rows after o given made holds. still_holds rows after o.pairs (apply o (SetLabel p label)).pairs (label_keeps rows after (path_text p) label made) (label_pairs p label o) holds;
}
