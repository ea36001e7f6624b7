-- What is reached, as it is searched for: links from UID to UID, each from the UID of a card to one that it names.
use Rattle.std.specs.Prelude.{◌≡◌, ◌↔◌, ◌&&◌, ℕ, Bool, true, false, List, ◌++◌, ◌∷◌, [], Option, Some, None, unwrap_or, if◌then◌else◌}
use Rattle.std.specs.FinMap.{get, insert}
use Rattle.std.specs.FinSet as set
use Rattle.std.specs.List.{list_any}
use Rattle.book_lists.specs.Circles.{has_path}
use Rattle.book_lists.specs.Memberships.{Memberships, Belongs}
use Rattle.book_lists.specs.Principals.{path_cmp}
use Rattle.book_office_values.specs.Names.{NamesTo}
use Rattle.book_office_members.specs.Steps.{has_uid, has_member, names_with}
use Rattle.book_office_members.specs.declared.card_refs.CardRef.{CardRef}
use Rattle.book_office_members.specs.declared.members.MemberLine.{MemberLine}

-- a link leads from a UID to each member of a card that has it
abbrev pub is_link : List ℕ → List ℕ → CardRef → Bool
is_link to from card = has_uid from card && has_member to card

abbrev pub AreLinks : List CardRef → Memberships → Type 0
AreLinks cards links = (to from : List ℕ) → set.contains links (record { group = to; member = from }) ≡ list_any (is_link to from) cards

-- a text is one of the starts, or a chain of links leads to it from one of them
abbrev pub FromStarts : Memberships → List (List ℕ) → List ℕ → Type 0
FromStarts links starts q = (s : List ℕ) × (has_path starts s ≡ true) × Belongs links s q

-- the set has exactly these texts
abbrev pub IsReachable : Memberships → List (List ℕ) → set.FinSet path_cmp → Type 0
IsReachable links starts found = (q : List ℕ) → (set.contains found q ≡ true) ↔ FromStarts links starts q

-- whether the set has the UID, if there is one
abbrev pub uid_in : set.FinSet path_cmp → Option (List ℕ) → Bool
uid_in found None = false
uid_in found (Some uid) = set.contains found uid

-- the names that a map has at a UID, and the map with one name more there
abbrev pub names_at : NamesTo (List (List ℕ)) → List ℕ → List (List ℕ)
names_at index uid = unwrap_or (get index uid) []

abbrev pub pushed_at : NamesTo (List (List ℕ)) → List ℕ → List ℕ → NamesTo (List (List ℕ))
pushed_at index uid name = insert index uid (names_at index uid ++ name ∷ [])

-- the UID, if it is one of a set
abbrev pub uid_among : set.FinSet path_cmp → Option (List ℕ) → Option (List ℕ)
uid_among wanted None = None
uid_among wanted (Some uid) = if set.contains wanted uid then Some uid else None

-- the map has the names of the cards at each UID of a set
abbrev pub HasNamesOf : List CardRef → set.FinSet path_cmp → NamesTo (List (List ℕ)) → Type 0
HasNamesOf cards wanted index = (uid : List ℕ) → set.contains wanted uid ≡ true → names_at index uid ≡ names_with cards uid

-- a MEMBER line, with the names that the map has at its value
abbrev pub line_by : NamesTo (List (List ℕ)) → List ℕ → MemberLine
line_by index value = record { value = value; names = names_at index value }
