-- What a policy's text names, by each text that spells a path of it.
use Rattle.std.specs.Prelude.{ℕ, ◌+◌, List, ◌++◌, length, codes, slice_index, nat_le, nat_lt, ◌==◌, ◌&&◌, not, if◌then◌else◌, is_some, Bool, true, false, Option, Some, None, option_and_then}
use Rattle.std.specs.List.{list_all}
use Rattle.std.specs.FinMap.{empty, get, insert}
use Rattle.toml.specs.Data.{Data, Items, no_items, item, Members, get_member, as_array, as_str, as_table}
use Rattle.book_lists.specs.Names.{is_name_byte}
use Rattle.book_office_values.specs.Names.{NamesTo}
use Rattle.book_policy_faults.specs.Keys.{key_text}
use Rattle.book_policy_faults.specs.declared.known.Known.{Known}
use Rattle.book_policy_faults.specs.declared.places.Key.TheVariants as key
use Rattle.book_policy_faults.specs.declared.places.TableKind.{TableKind}
use Rattle.book_policy_faults.specs.declared.places.TableKind.TheVariants.{Top, Person, Group, Book, Entry}

-- a name of 1 to 64 bytes, each an ASCII letter, a digit, `.`, `_` or `-`, the first of them no dot
abbrev pub is_name : List ℕ → Bool
is_name text =
    nat_lt 0 (length text) && (nat_le (length text) 64 && (not (slice_index text 0 == 46) && list_all is_name_byte text))

abbrev pub prefix_of : TableKind → List ℕ
prefix_of Top = codes ""
prefix_of Person = codes "/people/"
prefix_of Group = codes "/groups/"
prefix_of Book = codes "/books/"
prefix_of Entry = codes ""

-- the tables at a key; none where no array is there
abbrev pub items_or_none : Option Items → Items
items_or_none None = no_items
items_or_none (Some ds) = ds

abbrev pub rows_of : Option Data → Items
rows_of None = no_items
rows_of (Some d) = items_or_none (as_array d)

-- ---- texts that spell paths
abbrev pub Paths : Type 0
Paths = NamesTo Known

abbrev pub with_path : Paths → TableKind → ℕ → List ℕ → List ℕ → Paths
with_path m kind n spelled path =
    if is_some (get m spelled) then m else insert m spelled (record { kind = kind; number = n; path = path })

-- a path of one name or two may have a slash more at its end
abbrev pub with_both : Paths → TableKind → ℕ → List ℕ → Paths
with_both m kind n path = with_path (with_path m kind n path path) kind n (path ++ codes "/") path

-- the text at `name`
abbrev pub text_of : Option Data → Option (List ℕ)
text_of o = option_and_then as_str o

abbrev pub name_of_members : Option Members → Option (List ℕ)
name_of_members None = None
name_of_members (Some ms) = text_of (get_member (key_text key.Name) ms)

abbrev pub name_in : Data → Option (List ℕ)
name_in d = name_of_members (as_table d)

abbrev pub with_name : Paths → TableKind → ℕ → Option (List ℕ) → Paths
with_name m kind n None = m
with_name m kind n (Some name) = if is_name name then with_both m kind n (prefix_of kind ++ name) else m

abbrev pub with_named : Paths → TableKind → ℕ → Data → Paths
with_named m kind n d = with_name m kind n (name_in d)

-- the tables in turn, from number n on
abbrev pub with_paths : Paths → TableKind → ℕ → Items → Paths
with_paths m kind n no_items = m
with_paths m kind n (item d ds) = with_paths (with_named m kind n d) kind (n + 1) ds

abbrev pub homes : Paths
homes =
    with_both (with_both (with_both (with_path empty Top 0 (codes "/") (codes "/")) Top 0 (codes "/people")) Top 0 (codes "/groups"))
    Top 0 (codes "/books")

abbrev pub paths_of : Members → Paths
paths_of ms =
    with_paths (with_paths (with_paths homes Person 1 (rows_of (get_member (key_text key.Persons) ms)))
    Group 1 (rows_of (get_member (key_text key.Groups) ms))) Book 1 (rows_of (get_member (key_text key.Books) ms))

abbrev pub known_at : Paths → List ℕ → Option Known
known_at m text = get m text

abbrev pub is_principal_kind : TableKind → Bool
is_principal_kind Person = true
is_principal_kind Group = true
is_principal_kind Top = false
is_principal_kind Book = false
is_principal_kind Entry = false

abbrev pub is_principal : Known → Bool
is_principal k = is_principal_kind k.kind

-- a text spells the path of a person or a group
abbrev pub is_some_principal : Option Known → Bool
is_some_principal None = false
is_some_principal (Some k) = is_principal k
