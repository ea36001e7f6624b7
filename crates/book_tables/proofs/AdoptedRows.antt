-- Adopting a policy: where what differs is written, the rows give the Office that took it over, with the next epoch.
use Rattle.book_tables.proofs.Common.{◌≡◌, ◌≢◌, ◌⊎◌, inl, inr, ℕ, ◌+◌, Bool, true, false, cond, List, [], ◌∷◌, map, find, is_some, Option, Some, None, option_map, refl, sym, ap, subst, ◌∙◌, get, entries, AllByRecursion, list_any, bytes_eq, Row, update_where, Has, all_weaker, Memberships, group_path, Membership, PolicyTables, Office, Properties, Kind, Path, IsPath, path_text, some_apart, where_some, taken_over, bare, Adopt, apply, resource_at, properties_at, properties_resource, IsSound, resources_stand_in_place, Place, Joined, in_turn, Rows, with_epoch, AreDifferences, Compared, HasLists, HasPlace, lists_said, members_in, place_said, row_at, resource_of, is_member, IsNode, IsEntry, IsRemoved, Gives}
use Rattle.std.specs.FinSet as set
use Rattle.book_lists.specs.Memberships.{set_of}
use Rattle.book_lists.proofs.Pairing.{same_path, path_itself}
use Rattle.book_office_values.specs.declared.paths.Path.TheVariants as path
use Rattle.book_office_adopting.specs.Adopting.{adopt}
use Rattle.book_office_adopting.proofs.Adoptions.{adopting_something}
use Rattle.book_office.specs.Sound.{IsMappedGroup}
use Rattle.book_tables_rows.specs.Adopting.{Listed, AdoptsPolicy, adopted_rows, written_rows, write_place, write_lists, write_group}
use Rattle.book_tables_rows.specs.Writes as writes
use Rattle.book_tables_rows.specs.Writes.{Pair}
use Rattle.book_tables.specs.Adopting.{compared, group_said}
use Rattle.book_tables.specs.Reach.{HoldsReach, Renews}
use Rattle.book_tables.specs.Rows.{has_member}
use Rattle.book_tables.proofs.Acting.{Given}
use Rattle.book_tables.proofs.ChangedNodes.{same_resources}
use Rattle.book_tables.proofs.Comparisons.{Chosen, choose, IsCompared, is_compared, each_compared, got_entry}
use Rattle.book_tables.proofs.OneOffice.{epoch_is}
use Rattle.book_tables.proofs.PlacedRows.{HasRoom, place_of, each_place_at, places_written}
use Rattle.book_tables.proofs.RejoinedGroups.{join_at, all_joined, groups_alone, pair_found}
use Rattle.book_tables.proofs.KeptReach.{policy_keeps}
use Rattle.book_tables.proofs.RenewedReach.{gives_with_reach, reach_alone, renewed_holds}
use Rattle.book_tables.proofs.RelistedRows.{lists_of, each_list_at, all_lists_written}
use Rattle.book_tables.proofs.RowFacts.{kept_node, kept_entry, kept_removed}
use Rattle.book_tables.proofs.SameLists.{has_map}
use Rattle.book_tables.proofs.TakenPlaces.{AreChosen, bare_properties, resource_told, removed_stay, group_stays, written_taken_over}
use Rattle.book_tables.proofs.Turns.{turned, turned_either, turned_made}
use Rattle.book_tables.proofs.WellRows.{AreWell, Rewrites, rewrites_both}

all_of_has : {X : Type 0} (P : X → Type 0) (xs : List X) → ((x : X) → Has xs x → P x) → AllByRecursion P xs
all_of_has P [] h = tt
all_of_has P (x ∷ xs) h = (h x (inl refl), all_of_has P xs (λ y there. h y (inr there)))

is_found : {A B : Type 0} (f : A → B) (r : Option A) (b : B) → option_map f r ≡ Some b → (a : A) × (r ≡ Some a)
is_found f None b e = some_apart (sym e)
is_found f (Some a) b e = (a, refl)

module _ (t : PolicyTables) (rows : Rows) (o : Office) (given : Given rows o (Adopt t)) where
  abbrev N : Office
  N = taken_over t o

  abbrev o' : Office
  o' = record N { epoch = o.epoch + 1 }

  -- ---- places

  module _ (sound : IsSound o') where
    same_there : (p : Path) → resource_at o' p ≡ resource_at N p
    same_there p = same_resources N N.pairs (o.epoch + 1) p

    -- a place that is compared has a path
    path_named : (c : Compared) → IsCompared (bare o) (bare N) c → IsPath c.path
    path_named c both = where_some (resource_at o' c.path) (kept_place c.path c.new (sym (bare_properties N c.path) ∙ both.0)) (λ r is. (resources_stand_in_place o' sound c.path r is).named)
      where
        mapped : {A B : Type 0} (f : A → B) (r : Option A) (a : A) → r ≡ Some a → option_map f r ≢ None
        mapped f r a e none = some_apart (sym (ap (option_map f) e) ∙ none)

        kept_place : (p : Path) (properties : Properties) → properties_at N p ≡ Some properties → resource_at o' p ≢ None
        kept_place p properties is none = some_apart (sym (resource_told N p properties is) ∙ sym (same_there p) ∙ none)

    module _ (Needless : Option Properties → Properties → Type 0) {A : Type 0} (item : Compared → A) where
      pub are_chosen : (items : List A) (all : Chosen item (λ (c : Compared). Needless c.old c.new) (compared (bare o) (bare N)) [] items) → AreChosen (bare o) (bare N) Needless all.chosen
      are_chosen items all = record {
        compared = all_of_has (IsCompared (bare o) (bare N)) all.chosen (λ c there. is_compared (bare o) (bare N) c (all.within c there));
        named = all_of_has (λ (c : Compared). IsPath c.path) all.chosen (λ c there. path_named c (is_compared (bare o) (bare N) c (all.within c there)));
        all = λ p properties is. all.all _ (each_compared (bare o) (bare N) p properties is);
      }

  -- the root and the homes are there
  there : (p : Path) (properties : Properties) → IsPath p → (k : Kind) (n : ℕ) → resource_at o p ≡ Some (properties_resource k n properties) → (row : Row) × (row_at rows (path_text p) ≡ Some row)
  there p properties is_path k n is = is_found (resource_of rows.entries) (row_at rows (path_text p)) _ (given.gives.resources p is_path ∙ is)

  room : (p : Path) (properties : Properties) → properties_at N p ≡ Some properties → HasRoom rows p
  room path.Root properties is = inl (there path.Root o.root tt _ _ refl)
  room path.People properties is = inl (there path.People o.people tt _ _ refl)
  room path.Groups properties is = inl (there path.Groups o.groups_home tt _ _ refl)
  room path.Books properties is = inl (there path.Books o.books_home tt _ _ refl)
  room (path.Person n) properties is = let home = there path.People o.people tt _ _ refl in inr (path.People, refl, home.0, home.1)
  room (path.Group n) properties is = let home = there path.Groups o.groups_home tt _ _ refl in inr (path.Groups, refl, home.0, home.1)
  room (path.Book b) properties is = let home = there path.Books o.books_home tt _ _ refl in inr (path.Books, refl, home.0, home.1)
  room (path.Card b c) properties is = some_apart (sym is)

  -- ---- pairs

  abbrev group_items : List Membership → List ℕ → Joined
  group_items after name = group_said (group_path name) after

  abbrev SameMembers : List Membership → List Membership → List ℕ → Type 0
  SameMembers before after name = members_in (group_path name) before ≡ members_in (group_path name) after

  module _ (sound : IsSound o') (before after : List Membership) (before_is : set_of before ≡ o.pairs) (after_is : set_of after ≡ N.pairs)
      (groups : List Joined) (all : Chosen (group_items after) (SameMembers before after) (map (λ e. e.0) (entries N.groups)) [] groups) (m : Membership) where
    abbrev goal : Bool
    goal = set.contains N.pairs m

    abbrev items : List Joined
    items = map (group_items after) all.chosen

    told_by : (pairs : List Membership) (s : Memberships) → set_of pairs ≡ s → list_any (bytes_eq m.member) (members_in m.group pairs) ≡ set.contains s m
    told_by pairs s is = pair_found pairs m ∙ ap (λ k. set.contains k m) is

    step_of : (name : List ℕ) → ((x : Bool) → join_at m (group_items after name) x ≡ x) ⊎ ((x : Bool) → join_at m (group_items after name) x ≡ goal)
    step_of name = go (bytes_eq m.group (group_path name)) refl
      where
        go : (b : Bool) → bytes_eq m.group (group_path name) ≡ b
            → ((x : Bool) → cond b (list_any (bytes_eq m.member) (members_in (group_path name) after)) x ≡ x) ⊎ ((x : Bool) → cond b (list_any (bytes_eq m.member) (members_in (group_path name) after)) x ≡ goal)
        go true e = inr (λ x. ap (λ g. list_any (bytes_eq m.member) (members_in g after)) (sym (same_path m.group (group_path name) e)) ∙ told_by after N.pairs after_is)
        go false e = inl (λ x. refl)

    steps : (names : List (List ℕ)) → AllByRecursion (λ g. ((x : Bool) → join_at m g x ≡ x) ⊎ ((x : Bool) → join_at m g x ≡ goal)) (map (group_items after) names)
    steps [] = tt
    steps (name ∷ names) = (step_of name, steps names)

    either : (x : Bool) → (turned (join_at m) items x ≡ x) ⊎ (turned (join_at m) items x ≡ goal)
    either x = turned_either (join_at m) (λ _. goal) (λ _. refl) items (steps all.chosen) x

    -- a pair of a group that is there then
    of_group : (name : List ℕ) → m.group ≡ group_path name → get N.groups name ≢ None → turned (join_at m) items (set.contains o.pairs m) ≡ goal
    of_group name is mapped = where_some (get N.groups name) mapped (λ properties got.
        elim (all.all name (has_map (λ e. e.0) (entries N.groups) (name, properties) (got_entry N.groups name properties got))) [
          | inl chosen ↦ turned_made (join_at m) (λ _. goal) (λ _. refl) items (steps all.chosen) (group_items after name) (has_map (group_items after) all.chosen name chosen)
              (λ x. ap (λ b. cond b (list_any (bytes_eq m.member) (members_in (group_path name) after)) x) (ap (bytes_eq m.group) (sym is) ∙ path_itself m.group)
              ∙ ap (λ g. list_any (bytes_eq m.member) (members_in g after)) (sym is) ∙ told_by after N.pairs after_is) (set.contains o.pairs m)
          | inr same ↦ as_before (sym (told_by before o.pairs before_is) ∙ ap (λ g. list_any (bytes_eq m.member) (members_in g before)) is
              ∙ ap (list_any (bytes_eq m.member)) same ∙ ap (λ g. list_any (bytes_eq m.member) (members_in g after)) (sym is) ∙ told_by after N.pairs after_is)
        ])
      where
        as_before : set.contains o.pairs m ≡ goal → turned (join_at m) items (set.contains o.pairs m) ≡ goal
        as_before same = elim (either (set.contains o.pairs m)) [ inl stays ↦ stays ∙ same | inr made ↦ made ]

    mapped_in : IsMappedGroup N m.group → turned (join_at m) items (set.contains o.pairs m) ≡ goal
    mapped_in (name, is, mapped) = of_group name is mapped

    pub pairs_are : turned (join_at m) items (set.contains o.pairs m) ≡ goal
    pairs_are = go (set.contains o.pairs m) goal refl refl
      where
        go : (a b : Bool) → set.contains o.pairs m ≡ a → goal ≡ b → turned (join_at m) items (set.contains o.pairs m) ≡ goal
        go a true was is = mapped_in (sound.pairs m is).group
        go true false was is = let old = (given.sound.pairs m was).group in mapped_in (old.0, old.1, group_stays t o old.0 old.2)
        go false false was is = elim (either (set.contains o.pairs m)) [ inl stays ↦ stays ∙ was ∙ sym is | inr made ↦ made ]

  -- ---- the rows

  module _ (sound : IsSound o') (places : List Place) (lists : List Listed) (groups : List Joined) (differ : AreDifferences (bare o) (bare N) places lists groups) where
    abbrev chosen_places : Chosen (λ (c : Compared). place_said c.path c.new) (λ (c : Compared). HasPlace c.old c.new) (compared (bare o) (bare N)) [] places
    chosen_places = choose _ _ (compared (bare o) (bare N)) [] places differ.places_are

    abbrev chosen_lists : Chosen (λ (c : Compared). lists_said c.path c.new) (λ (c : Compared). HasLists c.old c.new) (compared (bare o) (bare N)) [] lists
    chosen_lists = choose _ _ (compared (bare o) (bare N)) [] lists differ.lists_are

    abbrev chosen_groups : Chosen (group_items differ.after) (SameMembers differ.before differ.after) (map (λ e. e.0) (entries N.groups)) [] groups
    chosen_groups = choose _ _ (map (λ e. e.0) (entries N.groups)) [] groups differ.groups_are

    ps : AreChosen (bare o) (bare N) HasPlace chosen_places.chosen
    ps = are_chosen sound HasPlace (λ (c : Compared). place_said c.path c.new) places chosen_places

    ls : AreChosen (bare o) (bare N) HasLists chosen_lists.chosen
    ls = are_chosen sound HasLists (λ (c : Compared). lists_said c.path c.new) lists chosen_lists

    well : AreWell rows
    well = record { nodes = given.gives.nodes; entries = given.gives.entries; removed = given.gives.removed; shaped = given.nodes.shaped }

    abbrev with_places : Rows
    with_places = in_turn write_place (map place_of chosen_places.chosen) rows

    abbrev with_lists : Rows
    with_lists = in_turn write_lists (map lists_of chosen_lists.chosen) with_places

    places_fit : AllByRecursion (λ (c : Compared). IsPath c.path × HasRoom rows c.path) chosen_places.chosen
    places_fit = all_of_has _ chosen_places.chosen (λ c in_chosen.
        let both = is_compared (bare o) (bare N) c (chosen_places.within c in_chosen) in
        (path_named sound c both, room c.path c.new (sym (bare_properties N c.path) ∙ both.0)))

    written : Rewrites rows with_lists (λ at r. each_list_at chosen_lists.chosen at (each_place_at chosen_places.chosen at r))
    written =
        let first = places_written chosen_places.chosen rows well places_fit in
        rewrites_both rows with_places with_lists (each_place_at chosen_places.chosen) (each_list_at chosen_lists.chosen) first (all_lists_written chosen_lists.chosen with_places first.well)

    abbrev members : List Row
    members = (in_turn write_group (map (group_items differ.after) chosen_groups.chosen) with_lists).members

    abbrev pub adopted : Rows
    adopted = record with_lists { members = members; meta = update_where (λ _. true) (with_epoch (o.epoch + 1)) rows.meta }

    written_is : writes.set_epoch (o.epoch + 1) (written_rows places lists groups rows) ≡ adopted
    written_is =
        (λ i. writes.set_epoch (o.epoch + 1) (written_rows (chosen_places.is i) (chosen_lists.is i) (chosen_groups.is i) rows))
        ∙ ap (writes.set_epoch (o.epoch + 1)) (groups_alone (map (group_items differ.after) chosen_groups.chosen) with_lists)
        ∙ ap (λ m. record with_lists { members = members; meta = update_where (λ _. true) (with_epoch (o.epoch + 1)) m }) written.meta

    pub after_is : (gone come : List Pair) → adopted_rows places lists groups gone come (o.epoch + 1) rows ≡ record adopted { reach = (writes.renew_reach gone come (written_rows places lists groups rows)).reach }
    after_is gone come =
        ap (writes.set_epoch (o.epoch + 1)) (reach_alone gone come (written_rows places lists groups rows))
        ∙ ap (λ (r : Rows). record r { reach = (writes.renew_reach gone come (written_rows places lists groups rows)).reach }) written_is

    members_are : (m : Membership) → has_member adopted m ≡ set.contains N.pairs m
    members_are m =
        all_joined (map (group_items differ.after) chosen_groups.chosen) with_lists o.pairs (λ k. ap (λ ms. is_some (find (is_member k) ms)) written.members ∙ given.gives.members k) m
        ∙ pairs_are sound differ.before differ.after differ.before_is differ.after_is groups chosen_groups m

    pub gives_taken_over : Gives adopted o'
    gives_taken_over = record {
      nodes = all_weaker (IsNode with_lists) (IsNode adopted) (kept_node with_lists adopted (λ at r found. (r, found, refl))) with_lists.nodes written.well.nodes;
      entries = all_weaker (IsEntry with_lists) (IsEntry adopted) (kept_entry with_lists adopted (λ x in_nodes. (x, in_nodes, refl))) with_lists.entries written.well.entries;
      removed = all_weaker (IsRemoved with_lists) (IsRemoved adopted) (kept_removed with_lists adopted (λ at r found. (r, found, refl))) with_lists.gone written.well.removed;
      resources = λ p is_path.
          written.resources (path_text p) ∙ ap (λ r. each_list_at chosen_lists.chosen (path_text p) (each_place_at chosen_places.chosen (path_text p) r)) (given.gives.resources p is_path)
          ∙ written_taken_over t o chosen_places.chosen chosen_lists.chosen ps ls p is_path ∙ sym (same_there sound p);
      members = members_are;
      gone = λ b name named. written.removed b name named ∙ given.gives.gone b name named ∙ sym (removed_stay t o b name);
      meta = (given.gives.meta.0, ap (update_where (λ _. true) (with_epoch (o.epoch + 1))) given.gives.meta.1);
    }

-- the Office differs from before: what differs is written
pub adoption_gives : (t : PolicyTables) (rows after : Rows) (o : Office) → Given rows o (Adopt t) → (taken_over t o ≡ o → ⊥)
    → (places : List Place) (lists : List Listed) (groups : List Joined) → AreDifferences (bare o) (bare (taken_over t o)) places lists groups → (gone come : List Pair)
    → AdoptsPolicy rows after places lists groups gone come → Gives after (apply o (Adopt t))
adoption_gives t rows after o given other places lists groups differ gone come made =
    let is : adopt t o ≡ o' t rows o given = adopting_something t o other in
    let sound : IsSound (o' t rows o given) = subst IsSound is given.fits.sound in
    let epoch = epoch_is rows.meta made.epoch o.epoch made.meta given.gives.meta in
    let rows_are = made.rows_are ∙ ap (λ n. adopted_rows places lists groups gone come (n + 1) rows) epoch ∙ after_is t rows o given sound places lists groups differ gone come in
    subst (λ r. Gives r (adopt t o)) (sym rows_are)
    (gives_with_reach _ _ (adopt t o) (subst (Gives (adopted t rows o given sound places lists groups differ)) (sym is) (gives_taken_over t rows o given sound places lists groups differ)))

-- and `reach` holds what chains of its direct members lead to
pub adoption_reaches : (t : PolicyTables) (rows after : Rows) (o : Office) → (taken_over t o ≡ o → ⊥) → (places : List Place) (lists : List Listed) (groups : List Joined) (gone come : List Pair)
    → Renews o.pairs (taken_over t o).pairs gone come → AdoptsPolicy rows after places lists groups gone come → HoldsReach rows.reach o.pairs → HoldsReach after.reach (apply o (Adopt t)).pairs
adoption_reaches t rows after o other places lists groups gone come renews made holds =
    let is : adopt t o ≡ record (taken_over t o) { epoch = o.epoch + 1 } = adopting_something t o other in
    let written = written_rows places lists groups rows in
    let before : HoldsReach written.reach o.pairs = subst (λ rs. HoldsReach rs o.pairs) (sym (policy_keeps places lists groups rows)) holds in
    let now : HoldsReach (writes.renew_reach gone come written).reach (taken_over t o).pairs = renewed_holds o.pairs (taken_over t o).pairs gone come written renews before in
    subst (λ (p : Office). HoldsReach after.reach p.pairs) (sym is) (subst (λ rs. HoldsReach rs (taken_over t o).pairs) (sym (ap (λ (r : Rows). r.reach) made.rows_are)) now)
