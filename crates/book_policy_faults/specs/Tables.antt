-- All faults of a policy's text, in the order of their places: the keys of the whole text, then the persons, the groups, the books
-- and the entries, each with the keys that it may not have and then its values in the order of `keys_of`.
use Rattle.std.specs.Prelude.{ℕ, ◌+◌, List, [], ◌∷◌, ◌++◌, nat_le, ◌==◌, if◌then◌else◌, is_some, not, unwrap_or, Bool, true, false, Option, Some, None, option_map}
use Rattle.std.specs.List.{list_any}
use Rattle.std.specs.FinMap.{empty, get, insert}
use Rattle.toml.specs.Data.{Data, Items, no_items, item, Members, no_members, member, get_member, as_str, as_table}
use Rattle.book_limits.specs.declared.TheConstants.{MAX_ENTRIES, MAX_MEMBERS, MAX_NAMED}
use Rattle.book_office_values.specs.Names.{NamesTo}
use Rattle.book_policy_faults.specs.Values.{is_among, keys_of, mark_of}
use Rattle.book_policy_faults.specs.Keys.{key_text}
use Rattle.book_policy_faults.specs.Known.{Paths, known_at, paths_of, rows_of}
use Rattle.book_policy_faults.specs.Placing.{next, placed}
use Rattle.book_policy_faults.specs.Problems.{array_problem, at_problem, item_problem, label_problem, mark_problem, name_problem, names_problem, owner_problem, unless, version_problem, who_problem}
use Rattle.book_policy_faults.specs.declared.known.Known.{Known}
use Rattle.book_policy_faults.specs.declared.places.Key.{Key}
use Rattle.book_policy_faults.specs.declared.places.Key.TheVariants as key
use Rattle.book_policy_faults.specs.declared.places.PlacedFault.{PlacedFault}
use Rattle.book_policy_faults.specs.declared.places.Problem.{Problem}
use Rattle.book_policy_faults.specs.declared.places.Problem.TheVariants.{UnknownKey, Missing, OtherKind, Both, TooMany, LongList}
use Rattle.book_policy_faults.specs.declared.places.Spot.{Spot}
use Rattle.book_policy_faults.specs.declared.places.TableKind.{TableKind}
use Rattle.book_policy_faults.specs.declared.places.TableKind.TheVariants.{Top, Person, Group, Book, Entry}
use Rattle.book_policy_faults.specs.declared.problems.ItemRule.{ItemRule}
use Rattle.book_policy_faults.specs.declared.problems.ItemRule.TheVariants.{Principals, Privileges}
use Rattle.book_policy_faults.specs.declared.tables.Counts.{Counts}
use Rattle.book_policy_faults.specs.declared.tables.Named.{Named}
use Rattle.book_policy_faults.specs.declared.tables.Seen.{Seen}

-- ---- lists with too many entries

-- the path that a text spells, if the policy names what is there
abbrev pub known_path : Paths → Option (List ℕ) → Option (List ℕ)
known_path m None = None
known_path m (Some text) = option_map (λ (k : Known). k.path) (known_at m text)

abbrev pub path_in : Paths → Data → Option (List ℕ)
path_in m d = known_path m (as_str d)

abbrev pub path_at : Paths → Option Data → Option (List ℕ)
path_at m None = None
path_at m (Some d) = path_in m d

abbrev pub place_of : Paths → Option Members → Option (List ℕ)
place_of m None = None
place_of m (Some ms) = path_at m (get_member (key_text key.At) ms)

abbrev pub entry_place : Paths → Data → Option (List ℕ)
entry_place m d = place_of m (as_table d)

abbrev pub protected_of : Option Members → Bool
protected_of None = false
protected_of (Some ms) = unwrap_or (mark_of (get_member (key_text key.Protected) ms)) false

abbrev pub is_protected : Data → Bool
is_protected d = protected_of (as_table d)

abbrev pub count_in : NamesTo ℕ → List ℕ → ℕ
count_in m path = unwrap_or (get m path) 0

-- the number is noted where it is the 65th of the list
abbrev pub noted_full : List ℕ → ℕ → ℕ → List ℕ
noted_full full n count = if count == MAX_ENTRIES then full ++ n ∷ [] else full

abbrev pub counted_at : Counts → ℕ → Bool → List ℕ → Counts
counted_at c n true path = record {
  protected = insert c.protected path (next (count_in c.protected path));
  own = c.own;
  full = noted_full c.full n (count_in c.protected path);
}
counted_at c n false path = record {
  protected = c.protected;
  own = insert c.own path (next (count_in c.own path));
  full = noted_full c.full n (count_in c.own path);
}

abbrev pub counted_place : Counts → ℕ → Bool → Option (List ℕ) → Counts
counted_place c n b None = c
counted_place c n b (Some path) = counted_at c n b path

abbrev pub counted_entry : Paths → Counts → ℕ → Data → Counts
counted_entry m c n d = counted_place c n (is_protected d) (entry_place m d)

abbrev pub counted_all : Paths → Counts → ℕ → Items → Counts
counted_all m c n no_items = c
counted_all m c n (item d ds) = counted_all m (counted_entry m c n d) (n + 1) ds

abbrev pub full_lists : Paths → Items → List ℕ
full_lists m ds = let c = counted_all m (record { protected = empty; own = empty; full = [] }) 1 ds in c.full

abbrev pub named_of : Members → Named
named_of ms = record { paths = paths_of ms; full = full_lists (paths_of ms) (rows_of (get_member (key_text key.Entries) ms)) }

-- ---- keys

-- the keys that a table of the kind may not have, by their number from i on
abbrev pub unknown_keys : TableKind → ℕ → ℕ → Members → List PlacedFault
unknown_keys kind n i no_members = []
unknown_keys kind n i (member k d ms) =
    placed (record { kind = kind; number = n; key = key.Itself; item = i }) (unless (is_among k (keys_of kind)) UnknownKey)
    ++ unknown_keys kind n (next i) ms

abbrev pub spot_at : TableKind → ℕ → Key → Spot
spot_at kind n k = record { kind = kind; number = n; key = k; item = 0 }

-- ---- arrays of texts
abbrev pub items_faults : Paths → ItemRule → Spot → ℕ → Items → List PlacedFault
items_faults m rule spot i no_items = []
items_faults m rule spot i (item d ds) =
    placed (record { kind = spot.kind; number = spot.number; key = spot.key; item = i }) (item_problem m rule d)
    ++ items_faults m rule spot (next i) ds

-- how many different paths of the policy are named
abbrev pub seen_path : Seen → List ℕ → Seen
seen_path s path = record {
  paths = insert s.paths path true;
  count = if is_some (get s.paths path) then s.count else next s.count;
}

abbrev pub seen_after : Seen → Option (List ℕ) → Seen
seen_after s None = s
seen_after s (Some path) = seen_path s path

abbrev pub seen_all : Paths → Seen → Items → Seen
seen_all m s no_items = s
seen_all m s (item d ds) = seen_all m (seen_after s (path_in m d)) ds

abbrev pub distinct : Paths → Items → ℕ
distinct m ds = let s = seen_all m (record { paths = empty; count = 0 }) ds in s.count

-- ---- tables

-- a name, which no table before has, and a label
abbrev pub named_faults : Paths → TableKind → ℕ → Members → List PlacedFault
named_faults m kind n ms =
    placed (spot_at kind n key.Name) (name_problem m kind n (get_member (key_text key.Name) ms))
    ++ placed (spot_at kind n key.Label) (label_problem (get_member (key_text key.Label) ms))

-- the members of a group
abbrev pub members_faults : Paths → ℕ → Option Data → List PlacedFault
members_faults m n o =
    placed (spot_at Group n key.Members) (array_problem o None)
    ++ (items_faults m Principals (spot_at Group n key.Members) 1 (rows_of o)
    ++ placed (spot_at Group n key.Members) (unless (nat_le (distinct m (rows_of o)) MAX_MEMBERS) TooMany))

-- names of privileges
abbrev pub names_faults : Paths → Spot → Option Data → List PlacedFault
names_faults m spot None = []
names_faults m spot (Some d) = placed spot (names_problem d) ++ items_faults m Privileges spot 1 (rows_of (Some d))

-- one of `grant` and `deny`
abbrev pub action_problem : Option Data → Option Data → Option Problem
action_problem None None = Some Missing
action_problem (Some grant) (Some deny) = Some Both
action_problem (Some grant) None = None
action_problem None (Some deny) = None

abbrev pub action_faults : Paths → ℕ → Members → List PlacedFault
action_faults m n ms =
    placed (spot_at Entry n key.Grant) (action_problem (get_member (key_text key.Grant) ms) (get_member (key_text key.Deny) ms))
    ++ (names_faults m (spot_at Entry n key.Grant) (get_member (key_text key.Grant) ms)
    ++ names_faults m (spot_at Entry n key.Deny) (get_member (key_text key.Deny) ms))

abbrev pub list_problem : List ℕ → ℕ → Option Problem
list_problem full n = unless (not (list_any (λ k. k == n) full)) LongList

abbrev pub entry_faults : Named → ℕ → Members → List PlacedFault
entry_faults named n ms =
    placed (spot_at Entry n key.At) (at_problem named.paths (get_member (key_text key.At) ms))
    ++ (placed (spot_at Entry n key.Itself) (list_problem named.full n)
    ++ (placed (spot_at Entry n key.Who) (who_problem named.paths (get_member (key_text key.Who) ms))
    ++ (placed (spot_at Entry n key.Invert) (mark_problem (get_member (key_text key.Invert) ms))
    ++ (action_faults named.paths n ms
    ++ placed (spot_at Entry n key.Protected) (mark_problem (get_member (key_text key.Protected) ms))))))

abbrev pub body_faults : Named → TableKind → ℕ → Members → List PlacedFault
body_faults named Top n ms = []
body_faults named Person n ms = named_faults named.paths Person n ms
body_faults named Group n ms =
    named_faults named.paths Group n ms ++ members_faults named.paths n (get_member (key_text key.Members) ms)
body_faults named Book n ms =
    named_faults named.paths Book n ms
    ++ placed (spot_at Book n key.Owner) (owner_problem named.paths (get_member (key_text key.Owner) ms))
body_faults named Entry n ms = entry_faults named n ms

abbrev pub row_faults : Named → TableKind → ℕ → Option Members → List PlacedFault
row_faults named kind n None = placed (spot_at kind n key.Itself) (Some OtherKind)
row_faults named kind n (Some ms) = unknown_keys kind n 1 ms ++ body_faults named kind n ms

abbrev pub table_faults : Named → TableKind → ℕ → Data → List PlacedFault
table_faults named kind n d = row_faults named kind n (as_table d)

-- the tables of a kind, from number n on
abbrev pub rows_faults : Named → TableKind → ℕ → Items → List PlacedFault
rows_faults named kind n no_items = []
rows_faults named kind n (item d ds) = table_faults named kind n d ++ rows_faults named kind (n + 1) ds

abbrev pub array_faults : Key → Option ℕ → Members → List PlacedFault
array_faults k most ms = placed (spot_at Top 0 k) (array_problem (get_member (key_text k) ms) most)

-- the keys of the whole text
abbrev pub top_faults : Members → List PlacedFault
top_faults ms =
    unknown_keys Top 0 1 ms
    ++ (placed (spot_at Top 0 key.Version) (version_problem (get_member (key_text key.Version) ms))
    ++ (array_faults key.Persons (Some MAX_NAMED) ms
    ++ (array_faults key.Groups (Some MAX_NAMED) ms
    ++ (array_faults key.Books (Some MAX_NAMED) ms
    ++ array_faults key.Entries None ms))))

abbrev pub rows_at : Named → TableKind → Key → Members → List PlacedFault
rows_at named kind k ms = rows_faults named kind 1 (rows_of (get_member (key_text k) ms))

-- all faults of the table of a text
abbrev pub faults_in : Members → List PlacedFault
faults_in ms =
    top_faults ms
    ++ (rows_at (named_of ms) Person key.Persons ms
    ++ (rows_at (named_of ms) Group key.Groups ms
    ++ (rows_at (named_of ms) Book key.Books ms
    ++ rows_at (named_of ms) Entry key.Entries ms)))
