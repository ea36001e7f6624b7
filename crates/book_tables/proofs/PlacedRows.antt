-- The rows after places were written: at each path the resource has the owner and the label, or is a new one.
use Rattle.book_tables.proofs.Common.{◌≡◌, ◌≢◌, ◌⊎◌, inl, inr, ℕ, ℤ, ◌<ℤ◌, Bool, true, false, cond, ◌&&◌, List, [], ◌∷◌, map, find, Option, Some, None, option_map, refl, sym, ap, subst, ◌∙◌, AllByRecursion, Value, Int, Text, next_rowid, id_in, Row, rowid, IsShaped, all_weaker, all-append, all_has, int_eq_apart, Properties, Kind, Path, IsPath, path_text, parent_of, kind_of, book_path, same, same_itself, by_names, some_apart, by_option, Resource, Place, in_turn, gone_book_place, gone_name_place, gone_number, Rows, has, number_in, is_at, is_gone, node_row, key, key_is, keyed, next_is, Compared, place_said, row_at, resource_in, resource_of, list_in, removed_in, removed_from, IsNode, IsEntry, IsRemoved, IsParent}
use Rattle.sqlite_trees.specs.declared.store.Shape.TheVariants.{Table as TableShape}
use Rattle.sqlite_trees.proofs.TreeLemmas.{IsShaped-put_row}
use Rattle.book_office_values.specs.declared.paths.Kind.TheVariants as kind
use Rattle.book_tables_rows.specs.Adopting.{add_under, write_found, write_place}
use Rattle.book_tables_rows.specs.Writes.{insert_node, with_place, set_place}
use Rattle.book_tables_rows.proofs.Shapes.{put_next}
use Rattle.book_tables.specs.Adopting.{text_or_empty}
use Rattle.book_office_values.specs.Paths.{kind_code}
use Rattle.book_tables.specs.Rows.{kind_numbered}
use Rattle.book_tables.proofs.Looking.{found_has, find-update_where, has_int}
use Rattle.book_tables.proofs.RowFacts.{apart, row_added, KeepsNumbers, KeepsRows, kept_node, kept_entry, kept_removed, has_appended, has_updated, all_updated, all_from_has, is_at_found}
use Rattle.book_tables.proofs.AddedBooks.{none_found}
use Rattle.book_tables.proofs.Turns.{turned}
use Rattle.book_tables.proofs.WrittenCards.{new_list, owner_told, below_apart}
use Rattle.book_tables.proofs.WellRows.{AreWell, Rewrites, updated_shaped, rewrites_nothing, rewrites_both}

pub kind_told : (k : Kind) → kind_numbered (kind_code k) ≡ k
kind_told kind.Root = refl
kind_told kind.Home = refl
kind_told kind.Person = refl
kind_told kind.Group = refl
kind_told kind.Book = refl
kind_told kind.Card = refl

-- the resource with an owner and a label; a new one has no text, no lists and the number 0
abbrev pub placed_on : Path → Properties → Option Resource → Resource
placed_on p properties None = record { kind = kind_of p; owner = properties.owner; label = properties.label; text = None; number = 0; protected = []; own = [] }
placed_on p properties (Some r) = record r { owner = properties.owner; label = properties.label }

abbrev pub place_at : Path → Properties → List ℕ → Option Resource → Option Resource
place_at p properties t r = cond (same t (path_text p)) (Some (placed_on p properties r)) r

-- ---- a node that is there

module _ (rows : Rows) (well : AreWell rows) (p : Path) (properties : Properties) (node : Row) (at_node : row_at rows (path_text p) ≡ Some node) where
  abbrev at : List ℕ
  at = path_text p

  abbrev f : Row → Row
  f = with_place properties.owner properties.label

  abbrev there_after : Rows
  there_after = set_place at properties.owner properties.label rows

  abbrev upd : Row → Row
  upd r = cond (is_at at r) (f r) r

  found_then : (t : List ℕ) → row_at there_after t ≡ option_map upd (row_at rows t)
  found_then t = find-update_where (is_at t) (is_at at) f (λ r. refl) rows.nodes

  -- the row that is found at a text, and what is found afterwards
  found_now : (t : List ℕ) (r : Row) → row_at rows t ≡ Some r → row_at there_after t ≡ Some (cond (same t at) (f r) r)
  found_now t r found = found_then t ∙ ap (option_map upd) found ∙ ap (λ b. Some (cond b (f r) r)) (is_at_found rows well.nodes well.shaped t at r found)

  there_numbers : KeepsNumbers rows there_after
  there_numbers t r found = go (same t at) (found_now t r found)
    where
      go : (b : Bool) → row_at there_after t ≡ Some (cond b (f r) r) → (s : Row) × (row_at there_after t ≡ Some s) × (rowid s ≡ rowid r)
      go true is = (f r, is, refl)
      go false is = (r, is, refl)

  there_rows : KeepsRows rows there_after
  there_rows x there = has_updated (is_at at) f (λ r. refl) rows.nodes x there

  there_node : (r : Row) → IsNode there_after r → IsNode there_after (f r)
  there_node r (q, n) = (q, record { named = n.named; path = n.path; parent = n.parent; kind = n.kind; number = n.number })

  there_resource : (r : Row) → resource_of rows.entries (f r) ≡ placed_on p properties (Some (resource_of rows.entries r))
  there_resource r = λ i. record (resource_of rows.entries r) { owner = owner_told properties.owner i; label = properties.label }

  there_resources : (t : List ℕ) → resource_in there_after t ≡ place_at p properties t (resource_in rows t)
  there_resources t = by_names t at (λ b. resource_in there_after t ≡ cond b (Some (placed_on p properties (resource_in rows t))) (resource_in rows t))
      (λ is.
      let found : row_at rows t ≡ Some node = ap (row_at rows) is ∙ at_node in
      ap (option_map (resource_of rows.entries)) (found_now t node found ∙ ap (λ b. Some (cond b (f node) node)) (ap (λ u. same u at) is ∙ same_itself at))
      ∙ ap Some (there_resource node) ∙ ap (λ r. Some (placed_on p properties r)) (sym (ap (option_map (resource_of rows.entries)) found)))
      (λ differs. by_option (row_at rows t)
      (λ none. ap (option_map (resource_of rows.entries)) (found_then t ∙ ap (option_map upd) none ∙ sym none))
      (λ r found. ap (option_map (resource_of rows.entries)) (found_now t r found ∙ ap (λ b. Some (cond b (f r) r)) (apart t at differs) ∙ sym found)))

  there_removed : (b name : List ℕ) → removed_in there_after b name ≡ removed_in rows b name
  there_removed b name = by_option (row_at rows (book_path b))
      (λ none. ap (removed_from rows.gone name) (found_then (book_path b) ∙ ap (option_map upd) none ∙ sym none))
      (λ r found. ap (removed_from rows.gone name) (found_now (book_path b) r found) ∙ go (same (book_path b) at) r ∙ ap (removed_from rows.gone name) (sym found))
    where
      go : (t : Bool) (r : Row) → removed_from rows.gone name (Some (cond t (f r) r)) ≡ removed_from rows.gone name (Some r)
      go true r = refl
      go false r = refl

  there_well : AreWell there_after
  there_well = record {
    nodes = all_updated (IsNode there_after) (is_at at) f there_node rows.nodes (all_weaker (IsNode rows) (IsNode there_after) (kept_node rows there_after there_numbers) rows.nodes well.nodes);
    entries = all_weaker (IsEntry rows) (IsEntry there_after) (kept_entry rows there_after there_rows) rows.entries well.entries;
    removed = all_weaker (IsRemoved rows) (IsRemoved there_after) (kept_removed rows there_after there_numbers) rows.gone well.removed;
    shaped = updated_shaped (is_at at) f (λ r. refl) rows.nodes well.shaped;
  }

  placed_there : Rewrites rows there_after (place_at p properties)
  placed_there = record {
    well = there_well;
    resources = there_resources;
    numbers = there_numbers;
    removed = λ b name named. there_removed b name;
    members = refl;
    meta = refl;
  }

-- ---- a new node

module _ (rows : Rows) (well : AreWell rows) (p : Path) (named : IsPath p) (properties : Properties) (above : Path) (is_above : parent_of p ≡ Some above)
    (home : Row) (at_home : row_at rows (path_text above) ≡ Some home) (none : row_at rows (path_text p) ≡ None) where
  abbrev new_at : List ℕ
  new_at = path_text p

  abbrev id : Value
  id = Int (id_in (rowid home))

  home_is : rowid home ≡ id
  home_is = key_is home (all_has _ rows.nodes home well.shaped.1 (found_has (is_at (path_text above)) rows.nodes home at_home).0)

  abbrev next : ℤ
  next = next_rowid rows.nodes

  abbrev new : Row
  new = node_row next new_at id (kind_code (kind_of p)) properties.owner properties.label None 0

  abbrev new_after : Rows
  new_after = insert_node new_at id (kind_code (kind_of p)) properties.owner properties.label None 0 rows

  added : (t : List ℕ) → row_at new_after t ≡ cond (same new_at t) (Some new) (row_at rows t)
  added t = row_added rows.nodes new new_at t refl none

  at_new : row_at new_after new_at ≡ Some new
  at_new = added new_at ∙ ap (λ t. cond t (Some new) (row_at rows new_at)) (same_itself new_at)

  elsewhere : (t : List ℕ) → t ≢ new_at → row_at new_after t ≡ row_at rows t
  elsewhere t differs = added t ∙ ap (λ x. cond x (Some new) (row_at rows t)) (apart new_at t (λ is. differs (sym is)))

  new_numbers : KeepsNumbers rows new_after
  new_numbers t r found = by_names t new_at (λ _. (s : Row) × (row_at new_after t ≡ Some s) × (rowid s ≡ rowid r))
      (λ is. some_apart (sym found ∙ ap (row_at rows) is ∙ none))
      (λ differs. (r, elsewhere t differs ∙ found, refl))

  new_rows : KeepsRows rows new_after
  new_rows x there = (x, has_appended rows.nodes (new ∷ []) x there, refl)

  no_list : (pr : Bool) → list_in rows.entries (Int next) pr ≡ []
  no_list = new_list rows well.entries well.shaped

  new_resource : resource_of rows.entries new ≡ placed_on p properties None
  new_resource = λ i. record {
    kind = kind_told (kind_of p) i;
    owner = owner_told properties.owner i;
    label = properties.label;
    text = None;
    number = 0;
    protected = no_list true i;
    own = no_list false i;
  }

  new_resources : (t : List ℕ) → resource_in new_after t ≡ place_at p properties t (resource_in rows t)
  new_resources t = by_names t new_at (λ b. resource_in new_after t ≡ cond b (Some (placed_on p properties (resource_in rows t))) (resource_in rows t))
      (λ is.
      ap (option_map (resource_of rows.entries)) (ap (row_at new_after) is ∙ at_new) ∙ ap Some new_resource
      ∙ ap (λ r. Some (placed_on p properties r)) (sym (ap (option_map (resource_of rows.entries)) (ap (row_at rows) is ∙ none))))
      (λ differs. ap (option_map (resource_of rows.entries)) (elsewhere t differs))

  -- no removed name is that of a new node
  no_names : (name : List ℕ) → find (is_gone (Int next) name) rows.gone ≡ None
  no_names name = none_found (is_gone (Int next) name) rows.gone (all_from_has _ rows.gone (λ x there.
      let it = all_has (IsRemoved rows) rows.gone x well.removed there in
      let row = it.there.0 in
      let in_nodes = (found_has (is_at (book_path it.book)) rows.nodes row it.there.1).0 in
      let int = key_is row (all_has _ rows.nodes row well.shaped.1 in_nodes) in
      let below = all_has (λ r. key r <ℤ next) rows.nodes row (next_is rows.nodes (keyed rows.nodes well.shaped)) in_nodes in
      let fails : has gone_book_place (Int next) x ≡ false = has_int 1 x (key row) next (it.there.2 ∙ int) ∙ int_eq_apart (key row) next (λ is. below_apart (key row) next below is) in
      ap (λ t. t && has gone_name_place (Text name) x) fails))

  new_removed : (b name : List ℕ) → removed_in new_after b name ≡ removed_in rows b name
  new_removed b name = by_names (book_path b) new_at (λ _. removed_in new_after b name ≡ removed_in rows b name)
      (λ is.
      ap (removed_from rows.gone name) (ap (row_at new_after) is ∙ at_new) ∙ ap (option_map (λ row. number_in (gone_number row))) (no_names name)
      ∙ sym (ap (removed_from rows.gone name) (ap (row_at rows) is ∙ none)))
      (λ differs. ap (removed_from rows.gone name) (elsewhere (book_path b) differs))

  new_node : IsNode new_after new
  new_node =
      let up = new_numbers (path_text above) home at_home in
      (p, record { named = named; path = refl; parent = subst (IsParent new_after id) (sym is_above) (up.0, up.1, sym (up.2 ∙ home_is)); kind = refl; number = refl })

  new_well : AreWell new_after
  new_well = record {
    nodes = all-append (IsNode new_after) rows.nodes (new ∷ []) (all_weaker (IsNode rows) (IsNode new_after) (kept_node rows new_after new_numbers) rows.nodes well.nodes) (new_node, tt);
    entries = all_weaker (IsEntry rows) (IsEntry new_after) (kept_entry rows new_after new_rows) rows.entries well.entries;
    removed = all_weaker (IsRemoved rows) (IsRemoved new_after) (kept_removed rows new_after new_numbers) rows.gone well.removed;
    shaped = subst (IsShaped TableShape) (put_next rows.nodes new well.shaped refl) (IsShaped-put_row new rows.nodes refl well.shaped);
  }

  placed_new : Rewrites rows new_after (place_at p properties)
  placed_new = record {
    well = new_well;
    resources = new_resources;
    numbers = new_numbers;
    removed = λ b name named. new_removed b name;
    members = refl;
    meta = refl;
  }

-- ---- places in turn

-- the node is there, or the one above it
abbrev pub HasRoom : Rows → Path → Type 0
HasRoom rows p = ((node : Row) × (row_at rows (path_text p) ≡ Some node)) ⊎ ((above : Path) × (parent_of p ≡ Some above) × (home : Row) × (row_at rows (path_text above) ≡ Some home))

pub keeps_room : (rows after : Rows) → KeepsNumbers rows after → (p : Path) → HasRoom rows p → HasRoom after p
keeps_room rows after keeps p (inl node) = let kept = keeps (path_text p) node.0 node.1 in inl (kept.0, kept.1)
keeps_room rows after keeps p (inr above) = let kept = keeps (path_text above.0) above.2 above.3 in inr (above.0, above.1, kept.0, kept.1)

abbrev pub place_of : Compared → Place
place_of place = place_said place.path place.new

place_written : (rows : Rows) → AreWell rows → (p : Path) → IsPath p → HasRoom rows p → (properties : Properties) → Rewrites rows (write_place (place_said p properties) rows) (place_at p properties)
place_written rows well p named room properties = by_option (row_at rows (path_text p))
    (λ none. go none room)
    (λ node found. subst (λ r. Rewrites rows r (place_at p properties)) (sym (ap (λ r. write_found r (place_said p properties) rows) found)) (placed_there rows well p properties node found))
  where
    go : row_at rows (path_text p) ≡ None → HasRoom rows p → Rewrites rows (write_place (place_said p properties) rows) (place_at p properties)
    go none (inl node) = some_apart (sym node.1 ∙ none)
    go none (inr (above, is_above, home, at_home)) =
        let parent_is : text_or_empty (parent_of p) ≡ path_text above = ap text_or_empty is_above in
        let found : row_at rows (text_or_empty (parent_of p)) ≡ Some home = ap (row_at rows) parent_is ∙ at_home in
        subst (λ r. Rewrites rows r (place_at p properties))
        (sym (ap (λ r. write_found r (place_said p properties) rows) none ∙ ap (λ r. add_under r (place_said p properties) rows) found))
        (placed_new rows well p named properties above is_above home at_home none)

abbrev pub each_place_at : List Compared → List ℕ → Option Resource → Option Resource
each_place_at places t = turned (λ (place : Compared). place_at place.path place.new t) places

pub places_written : (places : List Compared) (rows : Rows) → AreWell rows → AllByRecursion (λ (place : Compared). IsPath place.path × HasRoom rows place.path) places
    → Rewrites rows (in_turn write_place (map place_of places) rows) (each_place_at places)
places_written [] rows well all = rewrites_nothing rows well
places_written (place ∷ places) rows well all =
    let first = place_written rows well place.path all.0.0 all.0.1 place.new in
    let between = write_place (place_of place) rows in
    let rest = all_weaker (λ (x : Compared). IsPath x.path × HasRoom rows x.path) (λ (x : Compared). IsPath x.path × HasRoom between x.path) (λ x h. (h.0, keeps_room rows between first.numbers x.path h.1)) places all.1 in
    rewrites_both rows between (in_turn write_place (map place_of places) between) (place_at place.path place.new) (each_place_at places) first (places_written places between first.well rest)
