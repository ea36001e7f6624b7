-- The parts that the table of a policy spells, where its keys and values are of the right kinds.
use Rattle.std.specs.Prelude.{ℕ, List, [], ◌∷◌, ◌++◌, length, codes, nat_le, ◌&&◌, if◌then◌else◌, Bool, true, false, option_and_then, option_map, Option, Some, None}
use Rattle.toml.specs.Data.{Data, Items, no_items, item, Members, no_members, member, get_member, as_integer, as_str, as_array, as_table}
use Rattle.book_policy_values.specs.declared.parts.PersonPart.{PersonPart}
use Rattle.book_policy_values.specs.declared.parts.GroupPart.{GroupPart}
use Rattle.book_policy_values.specs.declared.parts.BookPart.{BookPart}
use Rattle.book_limits.specs.declared.TheConstants.{MAX_PRIVILEGE_NAMES}
use Rattle.book_policy_faults.specs.Values.{is_among, is_some_one, keys_of, mark_of, short_label}
use Rattle.book_policy_faults.specs.declared.places.TableKind.TheVariants.{Top, Person, Group, Book, Entry}
use Rattle.book_policy.specs.declared.parts.EntryText.{EntryText}
use Rattle.book_policy.specs.declared.parts.Parts.{Parts}

-- ---- the version

-- the version is the whole number 1
abbrev pub has_version_one : Members → Bool
has_version_one ms = is_some_one (option_and_then as_integer (get_member (codes "version") ms))

-- ---- keys

-- a table has no other keys than these
abbrev pub has_only : List (List ℕ) → Members → Bool
has_only names no_members = true
has_only names (member k d ms) = is_among k names && has_only names ms

-- ---- values

-- a text that is required
abbrev pub text_at : List ℕ → Members → Option (List ℕ)
text_at key ms = option_and_then as_str (get_member key ms)

-- a label is optional, and then empty
abbrev pub label_of : Option Data → Option (List ℕ)
label_of None = Some []
label_of (Some d) = option_and_then short_label (as_str d)

-- an owner is optional
abbrev pub owner_of : Option Data → Option (Option (List ℕ))
owner_of None = Some None
owner_of (Some d) = option_map (λ text. Some text) (as_str d)

-- what each item of an array is read as, if all can be read
abbrev pub each_after : {A : Type 0} → (Data → Option A) → List A → Items → Option (List A)
each_after read done no_items = Some done
each_after read done (item d ds) = option_and_then (λ x. each_after read (done ++ x ∷ []) ds) (read d)

abbrev pub each : {A : Type 0} → (Data → Option A) → Items → Option (List A)
each read ds = each_after read [] ds

-- an array that is optional, and then empty
abbrev pub array_of : {A : Type 0} → (Data → Option A) → Option Data → Option (List A)
array_of read None = Some []
array_of read (Some d) = option_and_then (each read) (as_array d)

-- ---- tables

abbrev pub person_with : Option (List ℕ) → Option (List ℕ) → Option PersonPart
person_with None label = None
person_with (Some name) None = None
person_with (Some name) (Some label) = Some (record { name = name; label = label })

abbrev pub person_in : Members → Option PersonPart
person_in ms = if has_only (keys_of Person) ms then person_with (text_at (codes "name") ms) (label_of (get_member (codes "label") ms)) else None

abbrev pub person_of : Data → Option PersonPart
person_of d = option_and_then person_in (as_table d)

abbrev pub group_with : Option (List ℕ) → Option (List ℕ) → Option (List (List ℕ)) → Option GroupPart
group_with None label members = None
group_with (Some name) None members = None
group_with (Some name) (Some label) None = None
group_with (Some name) (Some label) (Some members) = Some (record { name = name; label = label; members = members })

abbrev pub group_in : Members → Option GroupPart
group_in ms = if has_only (keys_of Group) ms
    then group_with (text_at (codes "name") ms) (label_of (get_member (codes "label") ms)) (array_of as_str (get_member (codes "members") ms))
    else None

abbrev pub group_of : Data → Option GroupPart
group_of d = option_and_then group_in (as_table d)

abbrev pub book_with : Option (List ℕ) → Option (List ℕ) → Option (Option (List ℕ)) → Option BookPart
book_with None label owner = None
book_with (Some name) None owner = None
book_with (Some name) (Some label) None = None
book_with (Some name) (Some label) (Some owner) = Some (record { name = name; label = label; owner = owner })

abbrev pub book_in : Members → Option BookPart
book_in ms = if has_only (keys_of Book) ms
    then book_with (text_at (codes "name") ms) (label_of (get_member (codes "label") ms)) (owner_of (get_member (codes "owner") ms))
    else None

abbrev pub book_of : Data → Option BookPart
book_of d = option_and_then book_in (as_table d)

-- ---- entries

-- 1 to 16 names
abbrev pub some_names : List (List ℕ) → Option (List (List ℕ))
some_names names = if nat_le 1 (length names) && nat_le (length names) MAX_PRIVILEGE_NAMES then Some names else None

abbrev pub names_in : Data → Option (List (List ℕ))
names_in d = option_and_then some_names (array_of as_str (Some d))

-- exactly one of `grant` and `deny`: whether it denies, and the names
abbrev pub action_of : Option Data → Option Data → Option (Bool × List (List ℕ))
action_of None None = None
action_of (Some grant) None = option_map (λ names. (false, names)) (names_in grant)
action_of None (Some deny) = option_map (λ names. (true, names)) (names_in deny)
action_of (Some grant) (Some deny) = None

abbrev pub entry_with : Option (List ℕ) → Option (List ℕ) → Option Bool → Option (Bool × List (List ℕ)) → Option Bool → Option EntryText
entry_with None who invert action protected = None
entry_with (Some at) None invert action protected = None
entry_with (Some at) (Some who) None action protected = None
entry_with (Some at) (Some who) (Some invert) None protected = None
entry_with (Some at) (Some who) (Some invert) (Some action) None = None
entry_with (Some at) (Some who) (Some invert) (Some action) (Some protected) =
    Some (record { at = at; who = who; invert = invert; deny = action.0; names = action.1; protected = protected })

abbrev pub entry_in : Members → Option EntryText
entry_in ms = if has_only (keys_of Entry) ms
    then entry_with (text_at (codes "at") ms) (text_at (codes "who") ms) (mark_of (get_member (codes "invert") ms))
    (action_of (get_member (codes "grant") ms) (get_member (codes "deny") ms)) (mark_of (get_member (codes "protected") ms))
    else None

abbrev pub entry_text_of : Data → Option EntryText
entry_text_of d = option_and_then entry_in (as_table d)

-- ---- the whole

abbrev pub parts_with : Option (List PersonPart) → Option (List GroupPart) → Option (List BookPart) → Option (List EntryText) → Option Parts
parts_with None groups books entries = None
parts_with (Some persons) None books entries = None
parts_with (Some persons) (Some groups) None entries = None
parts_with (Some persons) (Some groups) (Some books) None = None
parts_with (Some persons) (Some groups) (Some books) (Some entries) =
    Some (record { persons = persons; groups = groups; books = books; entries = entries })

abbrev pub parts_in : Members → Option Parts
parts_in ms = if has_only (keys_of Top) ms
    then parts_with (array_of person_of (get_member (codes "person") ms)) (array_of group_of (get_member (codes "group") ms))
    (array_of book_of (get_member (codes "book") ms)) (array_of entry_text_of (get_member (codes "entry") ms))
    else None
