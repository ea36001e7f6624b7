-- Sets of principals, by their paths.
use Rattle.std.specs.Prelude.{◌≡◌, ◌↔◌, ℕ, true, List, [], ◌∷◌, length}
use Rattle.std.specs.FinSet as set
use Rattle.std.specs.List.Sorted.{IsStrictlySortedBy}
use Rattle.book_lists.specs.Circles.{has_path}
use Rattle.book_lists.specs.Memberships.{Memberships, Belongs, Chain, Holds, IsDirect}
use Rattle.book_lists.specs.Principals.{path_cmp}

-- the list has each path of the set, once
pub record ListsAll (paths : set.FinSet path_cmp) (list : List (List ℕ)) : Type 0 where
  pub each : (q : List ℕ) → has_path list q ≡ set.contains paths q
  pub once : length list ≡ set.len paths

-- the number of the paths, each of which is counted once
pub record IsCount (paths : set.FinSet path_cmp) (number : ℕ) : Type 0 where
  pub keys : List (List ℕ)
  pub are : paths ≡ set.from_list keys
  pub rising : IsStrictlySortedBy path_cmp keys
  pub counted : number ≡ length keys

-- these paths and those of a list
abbrev pub with_paths : List (List ℕ) → set.FinSet path_cmp → set.FinSet path_cmp
with_paths [] paths = paths
with_paths (path ∷ more) paths = with_paths more (set.insert paths path)

-- of each member that has a group among the known pairs, these are all that chains lead from
abbrev pub AreKnown : Memberships → Memberships → Type 0
AreKnown pairs known = (member q : List ℕ) → IsDirect known q member → (r : List ℕ) → IsDirect known r member ↔ Chain pairs member r

-- the known pairs are more of the closure, and none is lost
pub record Grows (pairs old new : Memberships) : Type 0 where
  pub known : AreKnown pairs new
  pub kept : Holds old new

-- and all pairs of a member are among them
pub record GrowsAt (pairs : Memberships) (member : List ℕ) (old new : Memberships) : Type 0 where
  pub known : AreKnown pairs new
  pub kept : Holds old new
  pub whole : (group : List ℕ) → Chain pairs member group → IsDirect new group member

-- one of the starts belongs to it
abbrev pub FromStarts : Memberships → List (List ℕ) → List ℕ → Type 0
FromStarts pairs starts q = (s : List ℕ) × (has_path starts s ≡ true) × Belongs pairs s q

-- the set has exactly what the starts belong to
abbrev pub IsFound : Memberships → List (List ℕ) → set.FinSet path_cmp → Type 0
IsFound pairs starts found = (q : List ℕ) → (set.contains found q ≡ true) ↔ FromStarts pairs starts q

-- the set has exactly the groups that the principal is a direct member of
abbrev pub IsGroupsOf : Memberships → List ℕ → set.FinSet path_cmp → Type 0
IsGroupsOf pairs principal groups = (q : List ℕ) → set.contains groups q ≡ set.contains pairs (record { group = q; member = principal })

-- the set has exactly the groups from which a chain leads to the principal
abbrev pub IsAbove : Memberships → List ℕ → set.FinSet path_cmp → Type 0
IsAbove pairs principal above = (q : List ℕ) → (set.contains above q ≡ true) ↔ Chain pairs principal q

-- the set has exactly the principals to which the principal belongs
abbrev pub IsClosure : Memberships → List ℕ → set.FinSet path_cmp → Type 0
IsClosure pairs principal found = (q : List ℕ) → (set.contains found q ≡ true) ↔ Belongs pairs principal q
