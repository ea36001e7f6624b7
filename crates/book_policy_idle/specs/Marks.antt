-- What the program goes over, and what it keeps: a mark for each entry that it has not seen decide a leaf.
use Rattle.std.specs.Prelude.{◌≡◌, ◌≢◌, ◌<◌, ◌↔◌, ℕ, Bool, true, false, List, [], ◌∷◌, ◌++◌, length, map, All, Some, None, is_none}
use Rattle.book_rights.specs.declared.privileges.Leaf.{Leaf}
use Rattle.book_lists.specs.Callers.{IsCircle, IsCircleByReach}
use Rattle.book_lists.specs.Circles.{CircleOf}
use Rattle.book_lists.specs.Memberships.{Memberships}
use Rattle.book_lists.specs.Principals.{person_path}
use Rattle.book_lists.specs.declared.circles.Caller.{Caller}
use Rattle.book_lists.specs.declared.circles.Caller.TheVariants.{Nobody, Known}
use Rattle.book_lists.specs.declared.entries.Here.{Here}
use Rattle.book_office_values.specs.Paths.{is_kind, kind_of, levels}
use Rattle.book_office_values.specs.declared.paths.Kind.{Kind}
use Rattle.book_office_values.specs.declared.paths.Kind.TheVariants as kind
use Rattle.book_office_values.specs.declared.paths.Path.{Path}
use Rattle.book_office_values.specs.declared.paths.Path.TheVariants as path
use Rattle.book_policy_values.specs.declared.parts.PolicyEntry.{PolicyEntry}
use Rattle.book_policy_values.specs.declared.parts.PolicyTables.{PolicyTables}
use Rattle.book_policy_idle.specs.Idle.{callers_of, decider, is_marked, placed_along, placed_in_force, places_of, principal_of}
use Rattle.book_policy_idle.specs.declared.askers.Asker.{Asker}
use Rattle.book_policy_idle.specs.declared.in_force.Placed.{Placed}
use Rattle.book_policy_idle.specs.declared.scope.Scope.{Scope}
use Rattle.book_policy_idle.specs.declared.spots.Spot.{Spot}

-- ---- who asks, and where

-- a card that the caller owns; nobody owns none
abbrev pub own_card : Caller → Here
own_card Nobody = record { owner = None; principal = None }
own_card (Known person) = record { owner = Some person; principal = None }

-- one who asks, by the closure of the memberships, or by the memberships
pub record IsAskerBy (reach : Memberships) (asker : Asker) : Type 0 where
  pub circle : IsCircleByReach reach asker.caller asker.circle
  pub own : asker.own ≡ own_card asker.caller

pub record IsAsker (members : Memberships) (asker : Asker) : Type 0 where
  pub circle : IsCircle members asker.caller asker.circle
  pub own : asker.own ≡ own_card asker.caller

-- persons are added
pub record AddsAskers (reach : Memberships) (old : List Asker) (names : List (List ℕ)) (new : List Asker) : Type 0 where
  pub callers : map (λ (a : Asker). a.caller) new ≡ map (λ (a : Asker). a.caller) old ++ map (λ name. Known (person_path name)) names
  pub right : All (IsAskerBy reach) old → All (IsAskerBy reach) new

-- each caller, once
pub record AreAskers (t : PolicyTables) (askers : List Asker) : Type 0 where
  pub callers : map (λ (a : Asker). a.caller) askers ≡ callers_of t
  pub right : All (IsAsker t.members) askers

-- a path of one name
abbrev pub path_in : Kind → List ℕ → Path
path_in kind.Root name = path.Book name
path_in kind.Home name = path.Book name
path_in kind.Person name = path.Person name
path_in kind.Group name = path.Group name
path_in kind.Book name = path.Book name
path_in kind.Card name = path.Book name

-- what entries ask of a place without an owner
abbrev pub here_unowned : Path → Here
here_unowned p = record { owner = None; principal = principal_of p }

-- a place of a policy with these entries: the protected ones, and the others, each with its index
abbrev pub spot_at : List PolicyEntry → Path → Spot
spot_at es p = record {
  protected = placed_along true es (levels p);
  rest = placed_along false es (levels p);
  here = here_unowned p;
  is_book = is_kind kind.Book (kind_of p);
}

-- each caller, once; each place; and each place with the entries in force there
pub record IsScope (t : PolicyTables) (scope : Scope) : Type 0 where
  pub asking : AreAskers t scope.askers
  pub there : scope.places ≡ places_of t
  pub spots : scope.spots ≡ map (spot_at t.entries) scope.places

-- ---- the marks that are left

-- the entry with an index decides no leaf of these
abbrev pub Spares : CircleOf → Here → List Placed → ℕ → Type 0
Spares circle here list i = (leaf : Leaf) → decider circle here leaf list ≢ Some i

-- for one who asks: at a place, and at a card that they own where it is a book
pub record Both (Q : CircleOf → Here → Type 0) (here : Here) (is_book : Bool) (asker : Asker) : Type 0 where
  pub unowned : Q asker.circle here
  pub owned : is_book ≡ true → Q asker.circle asker.own

abbrev pub SparesBoth : Here → Bool → List Placed → Asker → ℕ → Type 0
SparesBoth here is_book list asker i = Both (λ circle at. Spares circle at list i) here is_book asker

-- for each who asks
abbrev pub SparesEach : Here → Bool → List Placed → List Asker → ℕ → Type 0
SparesEach here is_book list askers i = All (λ asker. SparesBoth here is_book list asker i) askers

-- for each who asks, at a place
abbrev pub SparesAt : List PolicyEntry → List Asker → Path → ℕ → Type 0
SparesAt es askers p i = SparesEach (here_unowned p) (is_kind kind.Book (kind_of p)) (placed_in_force es p) askers i

-- at each of the places
abbrev pub SparesAlong : List PolicyEntry → List Asker → List Path → ℕ → Type 0
SparesAlong es askers paths i = All (λ p. SparesAt es askers p i) paths

-- the marks that are left are those of which this holds
abbrev pub MarksLeft : (ℕ → Type 0) → List Bool → List Bool → Type 0
MarksLeft P old new = (i : ℕ) → (is_marked new i ≡ true) ↔ ((is_marked old i ≡ true) × P i)

-- an entry's mark is taken off
abbrev pub IsUnmarked : ℕ → List Bool → List Bool → Type 0
IsUnmarked index old new = (is_marked new index ≡ false) × ((i : ℕ) → i ≢ index → is_marked new i ≡ is_marked old i)

-- no marked entry stands in a list
abbrev pub AreUnmarked : List Bool → List Placed → Type 0
AreUnmarked marks [] = Unit {0}
AreUnmarked marks (e ∷ es) = (is_marked marks e.index ≡ false) × AreUnmarked marks es

-- after a list: the leaves that nothing decides are left, and the marks of those that decide none
pub record IsCleared (circle : CircleOf) (here : Here) (start : List Bool) (list : List Placed) (left : Leaf → Bool) (marks : List Bool) : Type 0 where
  pub left_open : (leaf : Leaf) → left leaf ≡ is_none (decider circle here leaf list)
  pub marks_left : MarksLeft (Spares circle here list) start marks

-- one entry more
abbrev pub Clears : CircleOf → Here → Placed → (Leaf → Bool) → List Bool → (Leaf → Bool) → List Bool → Type 0
Clears circle here placed left marks rest rest_marks =
    (start : List Bool) (list : List Placed) → IsCleared circle here start list left marks → IsCleared circle here start (list ++ placed ∷ []) rest rest_marks

-- each entry is marked
abbrev pub AreAllMarked : List PolicyEntry → List Bool → Type 0
AreAllMarked es marks = (i : ℕ) → (is_marked marks i ≡ true) ↔ (i < length es)

-- the entries that decide no leaf for those who ask, at these places
abbrev pub AreMarksOf : List PolicyEntry → List Asker → List Path → List Bool → Type 0
AreMarksOf es askers paths marks = (i : ℕ) → (is_marked marks i ≡ true) ↔ ((i < length es) × SparesAlong es askers paths i)
