-- Entries that decide nothing for anybody, in a small model of what requests can make: nobody and each person of the policy asks, at
-- each place of the policy, and at each card of a book, whoever owns it. The own list of a card is empty there: its entries come
-- before those of the book, so that they only take decisions away from entries behind them.
use Rattle.std.specs.Prelude.{◌≡◌, ◌≢◌, ◌<◌, ◌↔◌, ℕ, ◌+◌, Bool, true, false, cond, List, [], ◌∷◌, ◌++◌, map, length, slice_get, Contains, Option, Some, None, unwrap_or}
use Rattle.std.specs.FinMap.{keys}
use Rattle.std.specs.List.{flat_map}
use Rattle.book_rights.specs.declared.privileges.Leaf.{Leaf}
use Rattle.book_lists.specs.Callers.{IsCircle}
use Rattle.book_lists.specs.Circles.{CircleOf}
use Rattle.book_lists.specs.Decisions.{bears}
use Rattle.book_lists.specs.Principals.{group_path, person_path}
use Rattle.book_lists.specs.declared.circles.Caller.{Caller}
use Rattle.book_lists.specs.declared.circles.Caller.TheVariants.{Nobody, Known}
use Rattle.book_lists.specs.declared.entries.Here.{Here}
use Rattle.book_office_values.specs.Paths.{levels, path_text}
use Rattle.book_office_values.specs.declared.paths.Path.{Path}
use Rattle.book_office_values.specs.declared.paths.Path.TheVariants as path
use Rattle.book_policy_values.specs.Policies.{stands_at}
use Rattle.book_policy_values.specs.declared.parts.PolicyEntry.{PolicyEntry}
use Rattle.book_policy_values.specs.declared.parts.PolicyTables.{PolicyTables}
use Rattle.book_policy_idle.specs.declared.in_force.Placed.{Placed}

-- the entries of one list at the text of a path, each with its index among those of the policy, of which the first has index i
abbrev pub placed_at : Bool → List ℕ → ℕ → List PolicyEntry → List Placed
placed_at is_protected at i [] = []
placed_at is_protected at i (e ∷ es) =
    cond (stands_at is_protected at e) (record { index = i; entry = e.entry } ∷ placed_at is_protected at (i + 1) es) (placed_at is_protected at (i + 1) es)

-- the lists of one kind at some paths, one after the other
abbrev pub placed_along : Bool → List PolicyEntry → List Path → List Placed
placed_along is_protected es paths = flat_map (λ q. placed_at is_protected (path_text q) 0 es) paths

-- the entries in force at a path: the protected ones at it, above it, and so on, and then the others in the same order
abbrev pub placed_in_force : List PolicyEntry → Path → List Placed
placed_in_force es p = placed_along true es (levels p) ++ placed_along false es (levels p)

-- the index of the entry that decides a leaf: the first that applies and holds it
abbrev pub decider : CircleOf → Here → Leaf → List Placed → Option ℕ
decider circle here leaf [] = None
decider circle here leaf (e ∷ es) = cond (bears circle here leaf e.entry) (Some e.index) (decider circle here leaf es)

-- the resource itself, where it is a principal
abbrev pub principal_of : Path → Option (List ℕ)
principal_of path.Root = None
principal_of path.People = None
principal_of path.Groups = None
principal_of path.Books = None
principal_of (path.Person name) = Some (person_path name)
principal_of (path.Group name) = Some (group_path name)
principal_of (path.Book name) = None
principal_of (path.Card book name) = None

-- what entries ask of a place, or of a card in a book: a card may have any owner, and other places but books have none
abbrev pub IsHereAt : Path → Here → Type 0
IsHereAt path.Root here = here ≡ record { owner = None; principal = None }
IsHereAt path.People here = here ≡ record { owner = None; principal = None }
IsHereAt path.Groups here = here ≡ record { owner = None; principal = None }
IsHereAt path.Books here = here ≡ record { owner = None; principal = None }
IsHereAt (path.Person name) here = here ≡ record { owner = None; principal = principal_of (path.Person name) }
IsHereAt (path.Group name) here = here ≡ record { owner = None; principal = principal_of (path.Group name) }
IsHereAt (path.Book name) here = here.principal ≡ None
IsHereAt (path.Card book name) here = ⊥

-- nobody, and each person of the policy
abbrev pub callers_of : PolicyTables → List Caller
callers_of t = Nobody ∷ map (λ name. Known (person_path name)) (keys t.persons)

-- the root, the homes, and each person, group and book of the policy
abbrev pub homes : List Path
homes = path.Root ∷ path.People ∷ path.Groups ∷ path.Books ∷ []

abbrev pub places_of : PolicyTables → List Path
places_of t =
    homes ++ (map (λ name. path.Person name) (keys t.persons) ++ (map (λ name. path.Group name) (keys t.groups) ++ map (λ name. path.Book name) (keys t.books)))

-- the entry with an index decides no leaf for anybody
abbrev pub NeverDecides : PolicyTables → ℕ → Type 0
NeverDecides t i = (p : Path) (caller : Caller) (circle : CircleOf) (here : Here) (leaf : Leaf)
    → Contains (places_of t) p → Contains (callers_of t) caller → IsCircle t.members caller circle → IsHereAt p here
    → decider circle here leaf (placed_in_force t.entries p) ≢ Some i

-- a mark for each index
abbrev pub is_marked : List Bool → ℕ → Bool
is_marked marks i = unwrap_or (slice_get marks i) false

-- the marks are set exactly at the entries that decide no leaf for anybody
abbrev pub AreIdleMarks : PolicyTables → List Bool → Type 0
AreIdleMarks t marks = (i : ℕ) → (is_marked marks i ≡ true) ↔ ((i < length t.entries) × NeverDecides t i)
