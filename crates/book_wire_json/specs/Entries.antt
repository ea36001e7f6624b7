-- The body of an ACL: {"acl":[ENTRY, ..]} (RFC 3744, sections 5.5 and 8.1).
use Rattle.std.specs.Prelude.{◌≡◌, ◌⊎◌, ◌||◌, ◌&&◌, ℕ, Bool, true, false, if◌then◌else◌, List, [], ◌∷◌, length, nat_le, codes, Option, None, Some, option_map, option_and_then}
use Rattle.std.specs.List.{list_all}
use Rattle.std.specs.Str.{bytes_eq}
use Rattle.serde_json.specs.Data.{Data, null, boolean, number, string, array, object, Items, no_items, item, Members, no_members, member}
use Rattle.serde_json.specs.Find.{get, as_str, as_bool, as_array}
use Rattle.book_limits.specs.declared.TheConstants.{MAX_PRIVILEGE_NAMES}
use Rattle.book_lists.specs.declared.submitted.Submitted.{Submitted}
use Rattle.book_machine.specs.declared.messages.Body.{Body}
use Rattle.book_machine.specs.declared.messages.Body.TheVariants as body
use Rattle.book_wire_json.specs.Forms.{only_under, texts_in}
use Rattle.book_wire_json.specs.Principals.{IsFormIn}
use Rattle.book_wire_json.specs.Privileges.{AreLeavesIn}

abbrev pub is_entry_key : List ℕ → Bool
is_entry_key key =
    bytes_eq key (codes "principal") || (bytes_eq key (codes "invert") || (bytes_eq key (codes "grant")
    || (bytes_eq key (codes "deny") || (bytes_eq key (codes "protected") || bytes_eq key (codes "inherited")))))

abbrev pub keys_of : Members → List (List ℕ)
keys_of no_members = []
keys_of (member k d ms) = k ∷ keys_of ms

-- an object of which each key is one of an entry
abbrev pub has_entry_keys : Data → Bool
has_entry_keys null = false
has_entry_keys (boolean b) = false
has_entry_keys (number n) = false
has_entry_keys (string s) = false
has_entry_keys (array ds) = false
has_entry_keys (object ms) = list_all is_entry_key (keys_of ms)

-- the one of two that is there, where the other is not; and whether it is the second
abbrev pub either : Option Data → Option Data → Option (Bool × Data)
either (Some d) None = Some (false, d)
either None (Some d) = Some (true, d)
either None None = None
either (Some d) (Some e) = None

-- exactly one of `principal` and `invert`, a text: whether the entry is inverted, and the principal's text
abbrev pub form_in : Data → Option (Bool × List ℕ)
form_in d =
    option_and_then (λ found. option_map (λ text. (found.0, text)) (as_str found.1))
    (either (get (codes "principal") d) (get (codes "invert") d))

-- the names, if there are 1 to 16
abbrev pub if_few : List (List ℕ) → Option (List (List ℕ))
if_few names = if nat_le 1 (length names) && nat_le (length names) MAX_PRIVILEGE_NAMES then Some names else None

-- exactly one of `grant` and `deny`, 1 to 16 names: whether the entry denies, and the names
abbrev pub action_in : Data → Option (Bool × List (List ℕ))
action_in d =
    option_and_then (λ found. option_map (λ names. (found.0, names)) (option_and_then if_few (texts_in found.1)))
    (either (get (codes "grant") d) (get (codes "deny") d))

-- `protected`: a truth value; false where it is absent
abbrev pub protected_by : Option Data → Option Bool
protected_by None = Some false
protected_by (Some d) = as_bool d

-- `inherited`: a text marks the entry as inherited; it is not where it is absent
abbrev pub inherited_by : Option Data → Option Bool
inherited_by None = Some false
inherited_by (Some d) = option_map (λ text. true) (as_str d)

-- an entry as it is written
pub record Written : Type 0 where
  pub form : Bool × List ℕ
  pub action : Bool × List (List ℕ)
  pub protected : Bool
  pub inherited : Bool

abbrev pub written_as : Option (Bool × List ℕ) → Option (Bool × List (List ℕ)) → Option Bool → Option Bool → Option Written
written_as (Some form) (Some action) (Some protected) (Some inherited) =
    Some (record { form = form; action = action; protected = protected; inherited = inherited })
written_as _ _ _ _ = None

-- the entry that the value writes, if it writes one
abbrev pub written : Data → Option Written
written d =
    if has_entry_keys d then
    written_as (form_in d) (action_in d) (protected_by (get (codes "protected") d)) (inherited_by (get (codes "inherited") d)) else
    None

-- the entry is what was written: its principal form and its leaves, each none where they are not recognised
pub record Means (w : Written) (entry : Submitted) : Type 0 where
  pub who : IsFormIn w.form.1 entry.who
  pub invert : entry.invert ≡ w.form.0
  pub deny : entry.deny ≡ w.action.0
  pub set : AreLeavesIn w.action.1 entry.set
  pub protected : entry.protected ≡ w.protected
  pub inherited : entry.inherited ≡ w.inherited

abbrev pub IsEntry : Data → Option Submitted → Type 0
IsEntry d (Some entry) = (w : Written) × (written d ≡ Some w) × Means w entry
IsEntry d None = written d ≡ None

-- each item is the entry at its place
abbrev pub AreEntries : Items → List Submitted → Type 0
AreEntries no_items [] = Unit {0}
AreEntries no_items (e ∷ es) = ⊥
AreEntries (item d ds) [] = ⊥
AreEntries (item d ds) (e ∷ es) = IsEntry d (Some e) × AreEntries ds es

-- some item is no entry
abbrev pub HasNoEntry : Items → Type 0
HasNoEntry no_items = ⊥
HasNoEntry (item d ds) = IsEntry d None ⊎ HasNoEntry ds

-- the items of the list
abbrev pub acl_in : Data → Option Items
acl_in d = option_and_then as_array (only_under (codes "acl") d)

-- the entries; Unread where there is no list, or an item is no entry
abbrev pub IsListOf : Option Items → Body → Type 0
IsListOf None b = b ≡ body.Unread
IsListOf (Some ds) (body.List entries) = AreEntries ds entries
IsListOf (Some ds) body.Unread = HasNoEntry ds
IsListOf (Some ds) body.Empty = ⊥
IsListOf (Some ds) (body.Text text) = ⊥
IsListOf (Some ds) (body.Find properties) = ⊥
IsListOf (Some ds) (body.Patch patch) = ⊥
IsListOf (Some ds) (body.Report report) = ⊥

abbrev pub IsListBody : Option Data → Body → Type 0
IsListBody d b = IsListOf (option_and_then acl_in d) b
