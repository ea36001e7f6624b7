-- What is written where an Office takes over a policy: of its places, lists and groups those that differ.
use Rattle.std.specs.Prelude.{◌≡◌, ◌⊎◌, ℕ, List, [], ◌∷◌, ◌++◌, map, filter, Option, Some, None, option_map}
use Rattle.std.specs.FinMap.{get, entries}
use Rattle.std.specs.Str.{bytes_eq}
use Rattle.book_lists.specs.Memberships.{set_of}
use Rattle.book_lists.specs.Principals.{group_path}
use Rattle.book_lists.specs.declared.memberships.Membership.{Membership}
use Rattle.book_office_values.specs.declared.offices.Book.{Book}
use Rattle.book_office_values.specs.declared.offices.Office.{Office}
use Rattle.book_office_values.specs.declared.offices.Properties.{Properties}
use Rattle.book_office_values.specs.declared.paths.Path.{Path}
use Rattle.book_office_values.specs.declared.paths.Path.TheVariants as path
use Rattle.book_office_values.specs.Names.{NamesTo}
use Rattle.book_office_values.specs.Paths.{path_text, parent_of, kind_of, kind_code}
use Rattle.book_tables_rows.specs.Adopting.{Place, Listed, Joined}
use Rattle.book_tables.specs.Settings.{entry_said}

-- ---- what rows say

abbrev pub text_or_empty : Option Path → List ℕ
text_or_empty None = []
text_or_empty (Some above) = path_text above

-- the owner and the label of a place
abbrev pub place_said : Path → Properties → Place
place_said p properties = record { path = path_text p; parent = text_or_empty (parent_of p); kind = kind_code (kind_of p); owner = properties.owner; label = properties.label }

-- its lists
abbrev pub lists_said : Path → Properties → Listed
lists_said p properties = record { path = path_text p; protected = map entry_said properties.protected; own = map entry_said properties.own }

-- the direct members of a group, among pairs
abbrev pub members_in : List ℕ → List Membership → List (List ℕ)
members_in group pairs = map (λ (m : Membership). m.member) (filter (λ (m : Membership). bytes_eq m.group group) pairs)

abbrev pub group_said : List ℕ → List Membership → Joined
group_said group pairs = record { group = group; members = members_in group pairs }

-- ---- what is there already

-- a place has the owner and the label
abbrev pub HasPlace : Option Properties → Properties → Type 0
HasPlace None properties = ⊥
HasPlace (Some old) properties = (old.owner ≡ properties.owner) × (old.label ≡ properties.label)

-- a place has the lists; a new one has none
abbrev pub HasLists : Option Properties → Properties → Type 0
HasLists None properties = (properties.protected ≡ []) × (properties.own ≡ [])
HasLists (Some old) properties = (old.protected ≡ properties.protected) × (old.own ≡ properties.own)

-- ---- what is written

-- an item is added to a list, unless it is not needed
abbrev pub Adds : {A : Type 0} → A → Type 0 → List A → List A → Type 0
Adds item Needless old new = (new ≡ old ++ item ∷ []) ⊎ (Needless × (new ≡ old))

-- the same for the item of each of a list, in turn
abbrev pub AddsEach : {A X : Type 0} → (X → A) → (X → Type 0) → List X → List A → List A → Type 0
AddsEach item Needless [] old new = new ≡ old
AddsEach {A} item Needless (x ∷ xs) old new = (between : List A) × Adds (item x) (Needless x) old between × AddsEach item Needless xs between new

-- a place of an Office, and what another Office has at its path
pub record Compared : Type 0 where
  pub path : Path
  pub old : Option Properties
  pub new : Properties

abbrev pub compared_homes : Office → Office → List Compared
compared_homes old new =
    record { path = path.Root; old = Some old.root; new = new.root }
    ∷ record { path = path.People; old = Some old.people; new = new.people }
    ∷ record { path = path.Groups; old = Some old.groups_home; new = new.groups_home }
    ∷ record { path = path.Books; old = Some old.books_home; new = new.books_home } ∷ []

abbrev pub compared_in : (List ℕ → Path) → NamesTo Properties → List (List ℕ × Properties) → List Compared
compared_in place old new = map (λ e. record { path = place e.0; old = get old e.0; new = e.1 }) new

abbrev pub properties_of : Book → Properties
properties_of book = book.properties

abbrev pub compared_books : NamesTo Book → List (List ℕ × Book) → List Compared
compared_books old new = map (λ e. record { path = path.Book e.0; old = option_map properties_of (get old e.0); new = e.1.properties }) new

-- persons and groups before books, since they may own books
abbrev pub compared : Office → Office → List Compared
compared old new =
    compared_homes old new ++ compared_in path.Person old.persons (entries new.persons) ++ compared_in path.Group old.groups (entries new.groups)
    ++ compared_books old.books (entries new.books)

abbrev pub AddsPlaces : List Compared → List Place → List Place → Type 0
AddsPlaces = AddsEach (λ (c : Compared). place_said c.path c.new) (λ (c : Compared). HasPlace c.old c.new)

abbrev pub AddsLists : List Compared → List Listed → List Listed → Type 0
AddsLists = AddsEach (λ (c : Compared). lists_said c.path c.new) (λ (c : Compared). HasLists c.old c.new)

abbrev pub AddsGroups : List Membership → List Membership → List (List ℕ) → List Joined → List Joined → Type 0
AddsGroups before after = AddsEach (λ name. group_said (group_path name) after) (λ name. members_in (group_path name) before ≡ members_in (group_path name) after)

-- the places, lists and groups of an Office that differ from another's
pub record AreDifferences (old new : Office) (places : List Place) (lists : List Listed) (groups : List Joined) : Type 0 where
  pub places_are : AddsPlaces (compared old new) [] places
  pub lists_are : AddsLists (compared old new) [] lists
  -- the pairs of both, in some order
  pub before : List Membership
  pub before_is : set_of before ≡ old.pairs
  pub after : List Membership
  pub after_is : set_of after ≡ new.pairs
  pub groups_are : AddsGroups before after (map (λ e. e.0) (entries new.groups)) [] groups
