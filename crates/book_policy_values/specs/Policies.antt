-- Policies: the parts of one, the policy that they make, and the faults that parts may have (own profile).
use Rattle.std.specs.Prelude.{◌≡◌, ◌≢◌, ◌≤◌, ℕ, Bool, true, false, not, cond, nat_eq, ◌&&◌, List, [], ◌∷◌, length, map, filter, Option, Some, None, option_map, All, AllPairs, unwrap_or}
use Rattle.std.specs.FinMap.{get, insert, empty, len}
use Rattle.std.specs.FinSet as set
use Rattle.std.specs.Str.{bytes_eq}
use Rattle.book_rights.specs.declared.privileges.Leaf.{Leaf}
use Rattle.book_lists.specs.Names.{IsName}
use Rattle.book_lists.specs.Memberships.{Memberships, members_of}
use Rattle.book_lists.specs.Principals.{group_path}
use Rattle.book_lists.specs.declared.entries.Entry.{Entry}
use Rattle.book_lists.specs.declared.entries.Who.{Who}
use Rattle.book_lists.specs.declared.entries.Who.TheVariants.{Href, Everyone, Authenticated, Unauthenticated, Owner, Own}
use Rattle.book_lists.specs.declared.memberships.Membership.{Membership}
use Rattle.book_office_values.specs.Names.{NamesTo}
use Rattle.book_office_values.specs.Paths.{IsPath, SpellsPath, path_text}
use Rattle.book_office_values.specs.Texts.{IsLabel}
use Rattle.book_limits.specs.declared.TheConstants.{MAX_ENTRIES, MAX_MEMBERS, MAX_NAMED}
use Rattle.book_office_values.specs.declared.paths.Path.{Path}
use Rattle.book_office_values.specs.declared.paths.Path.TheVariants as path
use Rattle.book_policy_values.specs.declared.parts.PersonPart.{PersonPart}
use Rattle.book_policy_values.specs.declared.parts.GroupPart.{GroupPart}
use Rattle.book_policy_values.specs.declared.parts.BookPart.{BookPart}
use Rattle.book_policy_values.specs.declared.parts.EntryPart.{EntryPart}
use Rattle.book_policy_values.specs.declared.parts.PolicyBook.{PolicyBook}
use Rattle.book_policy_values.specs.declared.parts.PolicyEntry.{PolicyEntry}
use Rattle.book_policy_values.specs.declared.parts.PolicyTables.{PolicyTables}

-- ---- the policy that parts make

-- a text without the slash at its end, if one stands there behind something
abbrev pub trimmed : List ℕ → List ℕ
trimmed [] = []
trimmed (x ∷ []) = cond (nat_eq x 47) [] (x ∷ [])
trimmed (x ∷ y ∷ ys) = x ∷ trimmed (y ∷ ys)

abbrev pub spelled : List ℕ → List ℕ
spelled [] = []
spelled (x ∷ xs) = x ∷ trimmed xs

-- the persons, groups and books with their labels, each by its name
abbrev pub named_person : PersonPart → List ℕ × List ℕ
named_person p = (p.name, p.label)

abbrev pub named_group : GroupPart → List ℕ × List ℕ
named_group g = (g.name, g.label)

abbrev pub named_book : BookPart → List ℕ × PolicyBook
named_book b = (b.name, record { label = b.label; owner = option_map spelled b.owner })

-- a map with entries added to it, in turn
abbrev pub added : {V : Type 0} → NamesTo V → List (List ℕ × V) → NamesTo V
added m [] = m
added m (e ∷ es) = added (insert m e.0 e.1) es

-- a group's direct members, as pairs
abbrev pub direct : List ℕ → List (List ℕ) → List Membership
direct group texts = map (λ text. record { group = group; member = spelled text }) texts

-- a group's path, and its members as they were given
abbrev pub given_members : GroupPart → List ℕ × List (List ℕ)
given_members g = (group_path g.name, g.members)

abbrev pub memberships : List ℕ × List (List ℕ) → List Membership
memberships given = direct given.0 given.1

-- pairs with others added to them, in turn; a pair that is there is not added again
abbrev pub paired : Memberships → List Membership → Memberships
paired pairs [] = pairs
paired pairs (m ∷ ms) = paired (set.insert pairs m) ms

abbrev pub paired_all : Memberships → List (List ℕ × List (List ℕ)) → Memberships
paired_all pairs [] = pairs
paired_all pairs (g ∷ gs) = paired_all (paired pairs (memberships g)) gs

abbrev pub entry_of : EntryPart → PolicyEntry
entry_of e = record { at = spelled e.at; protected = e.protected; entry = e.entry }

abbrev pub policy_of : List PersonPart → List GroupPart → List BookPart → List EntryPart → PolicyTables
policy_of persons groups books entries = record {
  persons = added empty (map named_person persons);
  groups = added empty (map named_group groups);
  books = added empty (map named_book books);
  members = paired_all set.empty (map given_members groups);
  entries = map entry_of entries;
}

-- the protected entries at a path, or the others, in order
abbrev pub stands_at : Bool → List ℕ → PolicyEntry → Bool
stands_at true at e = e.protected && bytes_eq at e.at
stands_at false at e = not e.protected && bytes_eq at e.at

abbrev pub entries_at : Bool → List ℕ → List PolicyEntry → List Entry
entries_at is_protected at es = map (λ (e : PolicyEntry). e.entry) (filter (stands_at is_protected at) es)

-- ---- what a policy names

-- a person or a group of the policy
abbrev pub IsPrincipalOf : NamesTo (List ℕ) → NamesTo (List ℕ) → Path → Type 0
IsPrincipalOf persons groups (path.Person name) = get persons name ≢ None
IsPrincipalOf persons groups (path.Group name) = get groups name ≢ None
IsPrincipalOf persons groups path.Root = ⊥
IsPrincipalOf persons groups path.People = ⊥
IsPrincipalOf persons groups path.Groups = ⊥
IsPrincipalOf persons groups path.Books = ⊥
IsPrincipalOf persons groups (path.Book name) = ⊥
IsPrincipalOf persons groups (path.Card book name) = ⊥

-- the root, a home, or a person, a group or a book of the policy
abbrev pub IsPlaceOf : {B : Type 0} → NamesTo (List ℕ) → NamesTo (List ℕ) → NamesTo B → Path → Type 0
IsPlaceOf persons groups books path.Root = Unit {0}
IsPlaceOf persons groups books path.People = Unit {0}
IsPlaceOf persons groups books path.Groups = Unit {0}
IsPlaceOf persons groups books path.Books = Unit {0}
IsPlaceOf persons groups books (path.Person name) = get persons name ≢ None
IsPlaceOf persons groups books (path.Group name) = get groups name ≢ None
IsPlaceOf persons groups books (path.Book name) = get books name ≢ None
IsPlaceOf persons groups books (path.Card book name) = ⊥

-- a text spells such a path
abbrev pub NamesPrincipal : NamesTo (List ℕ) → NamesTo (List ℕ) → List ℕ → Type 0
NamesPrincipal persons groups text = (p : Path) × IsPath p × SpellsPath text p × IsPrincipalOf persons groups p

abbrev pub NamesPlace : {B : Type 0} → NamesTo (List ℕ) → NamesTo (List ℕ) → NamesTo B → List ℕ → Type 0
NamesPlace persons groups books text = (p : Path) × IsPath p × SpellsPath text p × IsPlaceOf persons groups books p

abbrev pub NamesOwner : NamesTo (List ℕ) → NamesTo (List ℕ) → Option (List ℕ) → Type 0
NamesOwner persons groups None = Unit {0}
NamesOwner persons groups (Some text) = NamesPrincipal persons groups text

-- a principal is the path of a person or a group of the policy
abbrev pub IsKnown : NamesTo (List ℕ) → NamesTo (List ℕ) → List ℕ → Type 0
IsKnown persons groups principal = (p : Path) × IsPath p × (principal ≡ path_text p) × IsPrincipalOf persons groups p

abbrev pub IsKnownOwner : NamesTo (List ℕ) → NamesTo (List ℕ) → Option (List ℕ) → Type 0
IsKnownOwner persons groups None = Unit {0}
IsKnownOwner persons groups (Some principal) = IsKnown persons groups principal

abbrev pub NamesForm : NamesTo (List ℕ) → NamesTo (List ℕ) → Who → Type 0
NamesForm persons groups (Href principal) = IsKnown persons groups principal
NamesForm persons groups Everyone = Unit {0}
NamesForm persons groups Authenticated = Unit {0}
NamesForm persons groups Unauthenticated = Unit {0}
NamesForm persons groups Owner = Unit {0}
NamesForm persons groups Own = Unit {0}

abbrev pub HoldsSome : (Leaf → Bool) → Type 0
HoldsSome leaves = (leaf : Leaf) × (leaves leaf ≡ true)

-- ---- the faults

-- parts that keep within the limits on numbers
pub record IsFew (persons : List PersonPart) (groups : List GroupPart) (books : List BookPart) (entries : List EntryPart) : Type 0 where
  pub few_persons : length persons ≤ MAX_NAMED
  pub few_groups : length groups ≤ MAX_NAMED
  pub few_books : length books ≤ MAX_NAMED
  -- repeated members of a group count once
  pub few_members : All (λ (g : GroupPart). set.len (paired set.empty (memberships (given_members g))) ≤ MAX_MEMBERS) groups
  -- of one list
  pub few_entries : (is_protected : Bool) (at : List ℕ) → length (entries_at is_protected at (map entry_of entries)) ≤ MAX_ENTRIES

-- labels are UTF-8, of at most 256 bytes
pub record HaveLabels (persons : List PersonPart) (groups : List GroupPart) (books : List BookPart) : Type 0 where
  pub of_persons : All (λ (p : PersonPart). IsLabel p.label) persons
  pub of_groups : All (λ (g : GroupPart). IsLabel g.label) groups
  pub of_books : All (λ (b : BookPart). IsLabel b.label) books

-- names are names
pub record AreNames (persons : List PersonPart) (groups : List GroupPart) (books : List BookPart) : Type 0 where
  pub of_persons : All (λ (p : PersonPart). IsName p.name) persons
  pub of_groups : All (λ (g : GroupPart). IsName g.name) groups
  pub of_books : All (λ (b : BookPart). IsName b.name) books

-- no name stands twice among the persons, the groups or the books
pub record AreOnce (persons : List PersonPart) (groups : List GroupPart) (books : List BookPart) : Type 0 where
  pub of_persons : AllPairs (λ (p q : PersonPart). p.name ≢ q.name) persons
  pub of_groups : AllPairs (λ (g h : GroupPart). g.name ≢ h.name) groups
  pub of_books : AllPairs (λ (b c : BookPart). b.name ≢ c.name) books

-- members, owners and the principals of entries are persons and groups of these
pub record AreKnown (persons : List PersonPart) (groups : List GroupPart) (books : List BookPart) (entries : List EntryPart) : Type 0 where
  pub members : let t = policy_of persons groups books entries in
      All (λ (g : GroupPart). All (NamesPrincipal t.persons t.groups) g.members) groups
  pub owners : let t = policy_of persons groups books entries in
      All (λ (b : BookPart). NamesOwner t.persons t.groups b.owner) books
  pub forms : let t = policy_of persons groups books entries in
      All (λ (e : EntryPart). NamesForm t.persons t.groups e.entry.who) entries

-- entries stand at the root, a home, or a person, a group or a book of these
abbrev pub ArePlaces : List PersonPart → List GroupPart → List BookPart → List EntryPart → Type 0
ArePlaces persons groups books entries =
    let t = policy_of persons groups books entries in
    All (λ (e : EntryPart). NamesPlace t.persons t.groups t.books e.at) entries

-- parts without a fault
pub record IsFaultless (persons : List PersonPart) (groups : List GroupPart) (books : List BookPart) (entries : List EntryPart) : Type 0 where
  pub labels : HaveLabels persons groups books
  -- each entry holds a leaf
  pub leaves : All (λ (e : EntryPart). HoldsSome e.entry.set) entries
  pub names : AreNames persons groups books
  pub once : AreOnce persons groups books
  pub known : AreKnown persons groups books entries
  pub places : ArePlaces persons groups books entries
  -- there are not too many
  pub few : IsFew persons groups books entries

-- ---- what holds of every policy

pub record IsPolicy (t : PolicyTables) : Type 0 where
  pub persons : (name : List ℕ) (label : List ℕ) → get t.persons name ≡ Some label → IsName name × IsLabel label
  pub groups : (name : List ℕ) (label : List ℕ) → get t.groups name ≡ Some label → IsName name × IsLabel label
  pub books : (name : List ℕ) (book : PolicyBook) → get t.books name ≡ Some book → IsName name × IsLabel book.label × IsKnownOwner t.persons t.groups book.owner
  pub members : (m : Membership) → set.contains t.members m ≡ true
      → ((name : List ℕ) × (m.group ≡ group_path name) × (get t.groups name ≢ None)) × IsKnown t.persons t.groups m.member
  pub few_members : (group : List ℕ) → set.len (members_of t.members group) ≤ MAX_MEMBERS
  pub leaves : All (λ (e : PolicyEntry). HoldsSome e.entry.set) t.entries
  pub forms : All (λ (e : PolicyEntry). NamesForm t.persons t.groups e.entry.who) t.entries
  pub places : All (λ (e : PolicyEntry). (p : Path) × IsPath p × (e.at ≡ path_text p) × IsPlaceOf t.persons t.groups t.books p) t.entries
  pub few_entries : (is_protected : Bool) (at : List ℕ) → length (entries_at is_protected at t.entries) ≤ MAX_ENTRIES
  pub few_persons : len t.persons ≤ MAX_NAMED
  pub few_groups : len t.groups ≤ MAX_NAMED
  pub few_books : len t.books ≤ MAX_NAMED

-- ---- lists by the text of the path where they stand

abbrev pub list_at : NamesTo (List Entry) → List ℕ → List Entry
list_at m at = unwrap_or (get m at) []

pub record AreListed (es : List PolicyEntry) (protected own : NamesTo (List Entry)) : Type 0 where
  pub protected_lists : (at : List ℕ) → list_at protected at ≡ entries_at true at es
  pub own_lists : (at : List ℕ) → list_at own at ≡ entries_at false at es
