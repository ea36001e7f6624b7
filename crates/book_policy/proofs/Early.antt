-- No value but the version has the fault of another version, and none has an earlier one.
use Rattle.std.proofs.Common.{◌≡◌, ◌≢◌, ℕ, ◌+◌, List, ◌++◌, Bool, true, false, if◌then◌else◌, ◌&&◌, ◌==◌, not, nat_eq, nat_le, is_some, Option, None, Some, refl, sym, ◌∙◌}
use Rattle.std.specs.List.{list_any}
use Rattle.std.proofs.lemmas.Bool.{eq-eqb, false≢true}
use Rattle.toml.specs.Data.{Data, Items, no_items, item, Members, no_members, member, get_member, as_array, as_str, as_table}
use Rattle.book_limits.specs.declared.TheConstants.{MAX_MEMBERS, MAX_NAMED, MAX_PRIVILEGE_NAMES}
use Rattle.book_policy_faults.specs.Values.{is_among, is_word, keys_of, mark_of, short_label}
use Rattle.book_policy.specs.Shapes.{has_version_one}
use Rattle.book_policy_faults.specs.declared.places.TableKind.{TableKind}
use Rattle.book_policy_faults.specs.declared.places.TableKind.TheVariants.{Top, Person, Group, Book, Entry}
use Rattle.book_policy_faults.specs.Keys.{key_text}
use Rattle.book_policy_faults.specs.Known.{Paths, is_name, is_some_principal, known_at, rows_of}
use Rattle.book_policy_faults.specs.Placing.{next, order, placed}
use Rattle.book_policy_faults.specs.Problems.{array_problem, array_with, at_problem, at_with, count, first_named, is_privilege_name, item_problem, item_with, label_problem, label_with, mark_problem, name_problem, name_with, names_problem, names_with, owner_problem, owner_with, principal_problem, twice_problem, unless, who_problem, who_with}
use Rattle.book_policy_faults.specs.Tables.{action_faults, action_problem, array_faults, body_faults, distinct, entry_faults, faults_in, items_faults, list_problem, members_faults, named_faults, named_of, names_faults, row_faults, rows_at, rows_faults, spot_at, table_faults, top_faults, unknown_keys}
use Rattle.book_policy_faults.specs.declared.places.Key.{Key}
use Rattle.book_policy_faults.specs.declared.places.Key.TheVariants as key
use Rattle.book_policy_faults.specs.declared.places.PlacedFault.{PlacedFault}
use Rattle.book_policy_faults.specs.declared.places.Problem.{Problem}
use Rattle.book_policy_faults.specs.declared.places.Problem.TheVariants.{UnknownKey, OtherKind, OtherVersion, LongLabel, NamesCount, BadName, NameTwice, UnknownPrincipal, UnknownResource, UnknownPrivilege, TooMany, LongList}
use Rattle.book_policy_faults.specs.declared.places.Spot.{Spot}
use Rattle.book_policy_faults.specs.declared.problems.ItemRule.{ItemRule}
use Rattle.book_policy_faults.specs.declared.problems.ItemRule.TheVariants.{Principals, Privileges}
use Rattle.book_policy_faults.specs.declared.tables.Named.{Named}
use Rattle.book_policy.proofs.Free.{Free, Off, free_both, free_parts, free_placed, off_asks, asks_off, placed_free}

apart : (k g : ℕ) → nat_eq k g ≡ false → k ≢ g
apart k g h e = false≢true (sym h ∙ eq-eqb k g e)

three : ◌≢◌ {A = ℕ} 3 2
three = apart 3 2 refl

test_off : (b : Bool) (p : Problem) → order p ≢ 2 → Off 2 (unless b p)
test_off true p h = tt
test_off false p h = h

keys_off : (kind : TableKind) (n i : ℕ) (ms : Members) → Free 2 (unknown_keys kind n i ms)
keys_off kind n i no_members = tt
keys_off kind n i (member k d ms) =
    let spot : Spot = record { kind = kind; number = n; key = key.Itself; item = i } in
    free_both 2 (placed spot (unless (is_among k (keys_of kind)) UnknownKey)) (unknown_keys kind n (next i) ms)
    (free_placed 2 spot (unless (is_among k (keys_of kind)) UnknownKey) (test_off (is_among k (keys_of kind)) UnknownKey three)) (keys_off kind n (next i) ms)

array_off : (o : Option Data) (most : Option ℕ) → Off 2 (array_problem o most)
array_off None most = tt
array_off (Some d) most = with_items most (as_array d)
  where
    with_items : (most : Option ℕ) (o : Option Items) → Off 2 (array_with most o)
    with_items most None = three
    with_items None (Some ds) = tt
    with_items (Some n) (Some ds) = test_off (nat_le (count ds) n) TooMany (apart 9 2 refl)

label_off : (o : Option Data) → Off 2 (label_problem o)
label_off None = tt
label_off (Some d) = of_text (as_str d)
  where
    of_text : (o : Option (List ℕ)) → Off 2 (label_with o)
    of_text None = three
    of_text (Some t) = test_off (is_some (short_label t)) LongLabel three

mark_off : (o : Option Data) → Off 2 (mark_problem o)
mark_off o = test_off (is_some (mark_of o)) OtherKind three

module _ (m : Paths) where
  principal_off : (t : List ℕ) → Off 2 (principal_problem m t)
  principal_off t = test_off (is_some_principal (known_at m t)) UnknownPrincipal (apart 6 2 refl)

  twice_off : (n : ℕ) (o : Option ℕ) → Off 2 (twice_problem n o)
  twice_off n None = tt
  twice_off n (Some k) = test_off (k == n) (NameTwice k) (apart 5 2 refl)

  name_off : (kind : TableKind) (n : ℕ) (o : Option Data) → Off 2 (name_problem m kind n o)
  name_off kind n None = three
  name_off kind n (Some d) = of_text (as_str d)
    where
      of_text : (o : Option (List ℕ)) → Off 2 (name_with m kind n o)
      of_text None = three
      of_text (Some t) = elim (is_name t) as (λ b. Off 2 (if b then twice_problem n (first_named m kind t) else Some BadName)) [
        | true ↦ twice_off n (first_named m kind t)
        | false ↦ apart 4 2 refl
      ]

  owner_off : (o : Option Data) → Off 2 (owner_problem m o)
  owner_off None = tt
  owner_off (Some d) = of_text (as_str d)
    where
      of_text : (o : Option (List ℕ)) → Off 2 (owner_with m o)
      of_text None = three
      of_text (Some t) = principal_off t

  who_off : (o : Option Data) → Off 2 (who_problem m o)
  who_off None = three
  who_off (Some d) = of_text (as_str d)
    where
      of_text : (o : Option (List ℕ)) → Off 2 (who_with m o)
      of_text None = three
      of_text (Some t) = elim (is_word t) as (λ b. Off 2 (if b then None else principal_problem m t)) [ true ↦ tt | false ↦ principal_off t ]

  at_off : (o : Option Data) → Off 2 (at_problem m o)
  at_off None = three
  at_off (Some d) = of_text (as_str d)
    where
      of_text : (o : Option (List ℕ)) → Off 2 (at_with m o)
      of_text None = three
      of_text (Some t) = test_off (is_some (known_at m t)) UnknownResource (apart 7 2 refl)

  item_off : (rule : ItemRule) (o : Option (List ℕ)) → Off 2 (item_with m rule o)
  item_off Principals None = three
  item_off Privileges None = three
  item_off Principals (Some t) = principal_off t
  item_off Privileges (Some t) = test_off (is_privilege_name t) UnknownPrivilege (apart 8 2 refl)

  items_off : (rule : ItemRule) (spot : Spot) (i : ℕ) (ds : Items) → Free 2 (items_faults m rule spot i ds)
  items_off rule spot i no_items = tt
  items_off rule spot i (item d ds) =
      let here : Spot = record { kind = spot.kind; number = spot.number; key = spot.key; item = i } in
      free_both 2 (placed here (item_problem m rule d)) (items_faults m rule spot (next i) ds)
      (free_placed 2 here (item_problem m rule d) (item_off rule (as_str d))) (items_off rule spot (next i) ds)

  named_off : (kind : TableKind) (n : ℕ) (ms : Members) → Free 2 (named_faults m kind n ms)
  named_off kind n ms =
      let name = get_member (key_text key.Name) ms in
      let label = get_member (key_text key.Label) ms in
      free_both 2 (placed (spot_at kind n key.Name) (name_problem m kind n name)) (placed (spot_at kind n key.Label) (label_problem label))
      (free_placed 2 (spot_at kind n key.Name) (name_problem m kind n name) (name_off kind n name))
      (free_placed 2 (spot_at kind n key.Label) (label_problem label) (label_off label))

  members_off : (n : ℕ) (o : Option Data) → Free 2 (members_faults m n o)
  members_off n o =
      let spot = spot_at Group n key.Members in
      let last = unless (nat_le (distinct m (rows_of o)) MAX_MEMBERS) TooMany in
      free_both 2 (placed spot (array_problem o None)) (items_faults m Principals spot 1 (rows_of o) ++ placed spot last)
      (free_placed 2 spot (array_problem o None) (array_off o None))
      (free_both 2 (items_faults m Principals spot 1 (rows_of o)) (placed spot last) (items_off Principals spot 1 (rows_of o))
      (free_placed 2 spot last (test_off (nat_le (distinct m (rows_of o)) MAX_MEMBERS) TooMany (apart 9 2 refl))))

  names_off : (spot : Spot) (o : Option Data) → Free 2 (names_faults m spot o)
  names_off spot None = tt
  names_off spot (Some d) =
      free_both 2 (placed spot (names_problem d)) (items_faults m Privileges spot 1 (rows_of (Some d)))
      (free_placed 2 spot (names_problem d) (of_array (as_array d))) (items_off Privileges spot 1 (rows_of (Some d)))
    where
      of_array : (o : Option Items) → Off 2 (names_with o)
      of_array None = three
      of_array (Some ds) = test_off (nat_le 1 (count ds) && nat_le (count ds) MAX_PRIVILEGE_NAMES) NamesCount three

  both_off : (grant deny : Option Data) → Off 2 (action_problem grant deny)
  both_off None None = three
  both_off (Some g) (Some d) = three
  both_off (Some g) None = tt
  both_off None (Some d) = tt

  action_off : (n : ℕ) (ms : Members) → Free 2 (action_faults m n ms)
  action_off n ms =
      let grant = get_member (key_text key.Grant) ms in
      let deny = get_member (key_text key.Deny) ms in
      let at_grant = spot_at Entry n key.Grant in
      let at_deny = spot_at Entry n key.Deny in
      free_both 2 (placed at_grant (action_problem grant deny)) (names_faults m at_grant grant ++ names_faults m at_deny deny)
      (free_placed 2 at_grant (action_problem grant deny) (both_off grant deny))
      (free_both 2 (names_faults m at_grant grant) (names_faults m at_deny deny) (names_off at_grant grant) (names_off at_deny deny))

module _ (named : Named) where
  entry_off : (n : ℕ) (ms : Members) → Free 2 (entry_faults named n ms)
  entry_off n ms =
      let m = named.paths in
      let at = get_member (key_text key.At) ms in
      let who = get_member (key_text key.Who) ms in
      let invert = get_member (key_text key.Invert) ms in
      let protected = get_member (key_text key.Protected) ms in
      let of_protected = placed (spot_at Entry n key.Protected) (mark_problem protected) in
      let from_action = action_faults m n ms ++ of_protected in
      let from_invert = placed (spot_at Entry n key.Invert) (mark_problem invert) ++ from_action in
      let from_who = placed (spot_at Entry n key.Who) (who_problem m who) ++ from_invert in
      let from_list = placed (spot_at Entry n key.Itself) (list_problem named.full n) ++ from_who in
      free_both 2 (placed (spot_at Entry n key.At) (at_problem m at)) from_list (free_placed 2 (spot_at Entry n key.At) (at_problem m at) (at_off m at))
      (free_both 2 (placed (spot_at Entry n key.Itself) (list_problem named.full n)) from_who
      (free_placed 2 (spot_at Entry n key.Itself) (list_problem named.full n) (test_off (not (list_any (λ k. k == n) named.full)) LongList (apart 9 2 refl)))
      (free_both 2 (placed (spot_at Entry n key.Who) (who_problem m who)) from_invert (free_placed 2 (spot_at Entry n key.Who) (who_problem m who) (who_off m who))
      (free_both 2 (placed (spot_at Entry n key.Invert) (mark_problem invert)) from_action (free_placed 2 (spot_at Entry n key.Invert) (mark_problem invert) (mark_off invert))
      (free_both 2 (action_faults m n ms) of_protected (action_off m n ms) (free_placed 2 (spot_at Entry n key.Protected) (mark_problem protected) (mark_off protected))))))

  body_off : (kind : TableKind) (n : ℕ) (ms : Members) → Free 2 (body_faults named kind n ms)
  body_off Top n ms = tt
  body_off Person n ms = named_off named.paths Person n ms
  body_off Group n ms =
      let members = get_member (key_text key.Members) ms in
      free_both 2 (named_faults named.paths Group n ms) (members_faults named.paths n members) (named_off named.paths Group n ms) (members_off named.paths n members)
  body_off Book n ms =
      let owner = get_member (key_text key.Owner) ms in
      free_both 2 (named_faults named.paths Book n ms) (placed (spot_at Book n key.Owner) (owner_problem named.paths owner)) (named_off named.paths Book n ms)
      (free_placed 2 (spot_at Book n key.Owner) (owner_problem named.paths owner) (owner_off named.paths owner))
  body_off Entry n ms = entry_off n ms

  row_off : (kind : TableKind) (n : ℕ) (o : Option Members) → Free 2 (row_faults named kind n o)
  row_off kind n None = (three, tt)
  row_off kind n (Some ms) = free_both 2 (unknown_keys kind n 1 ms) (body_faults named kind n ms) (keys_off kind n 1 ms) (body_off kind n ms)

  rows_off : (kind : TableKind) (n : ℕ) (ds : Items) → Free 2 (rows_faults named kind n ds)
  rows_off kind n no_items = tt
  rows_off kind n (item d ds) = free_both 2 (table_faults named kind n d) (rows_faults named kind (n + 1) ds) (row_off kind n (as_table d)) (rows_off kind (n + 1) ds)

arrays_off : (k : Key) (most : Option ℕ) (ms : Members) → Free 2 (array_faults k most ms)
arrays_off k most ms = free_placed 2 (spot_at Top 0 k) (array_problem (get_member (key_text k) ms) most) (array_off (get_member (key_text k) ms) most)

module _ (ms : Members) where
  abbrev arrays : List PlacedFault
  arrays =
      array_faults key.Persons (Some MAX_NAMED) ms
      ++ (array_faults key.Groups (Some MAX_NAMED) ms ++ (array_faults key.Books (Some MAX_NAMED) ms ++ array_faults key.Entries None ms))

  abbrev tables : List PlacedFault
  tables =
      rows_at (named_of ms) Person key.Persons ms
      ++ (rows_at (named_of ms) Group key.Groups ms ++ (rows_at (named_of ms) Book key.Books ms ++ rows_at (named_of ms) Entry key.Entries ms))

  abbrev version : List PlacedFault
  version = placed (spot_at Top 0 key.Version) (unless (has_version_one ms) OtherVersion)

  pub version_free : has_version_one ms ≡ true → Free 2 (faults_in ms)
  version_free one =
      free_both 2 (top_faults ms) tables
      (free_both 2 (unknown_keys Top 0 1 ms) (version ++ arrays) (keys_off Top 0 1 ms)
      (free_both 2 version arrays (free_placed 2 (spot_at Top 0 key.Version) (unless (has_version_one ms) OtherVersion) (asks_off 2 (has_version_one ms) OtherVersion one))
      (free_both 2 (array_faults key.Persons (Some MAX_NAMED) ms) _ (arrays_off key.Persons (Some MAX_NAMED) ms)
      (free_both 2 (array_faults key.Groups (Some MAX_NAMED) ms) _ (arrays_off key.Groups (Some MAX_NAMED) ms)
      (free_both 2 (array_faults key.Books (Some MAX_NAMED) ms) _ (arrays_off key.Books (Some MAX_NAMED) ms) (arrays_off key.Entries None ms))))))
      (free_both 2 (rows_at (named_of ms) Person key.Persons ms) _ (rows_off (named_of ms) Person 1 (rows_of (get_member (key_text key.Persons) ms)))
      (free_both 2 (rows_at (named_of ms) Group key.Groups ms) _ (rows_off (named_of ms) Group 1 (rows_of (get_member (key_text key.Groups) ms)))
      (free_both 2 (rows_at (named_of ms) Book key.Books ms) _ (rows_off (named_of ms) Book 1 (rows_of (get_member (key_text key.Books) ms)))
      (rows_off (named_of ms) Entry 1 (rows_of (get_member (key_text key.Entries) ms))))))

  pub free_version : Free 2 (faults_in ms) → has_version_one ms ≡ true
  free_version h =
      let top = (free_parts 2 (top_faults ms) tables h).0 in
      let later = (free_parts 2 (unknown_keys Top 0 1 ms) (version ++ arrays) top).1 in
      let here = (free_parts 2 version arrays later).0 in
      off_asks 2 (has_version_one ms) OtherVersion (placed_free 2 (spot_at Top 0 key.Version) (unless (has_version_one ms) OtherVersion) here)
