-- One step of a search that stops where what is above is known.
use Rattle.std.specs.Prelude.{◌≡◌, ◌⊎◌, ℕ, List, ◌++◌}
use Rattle.std.specs.FinSet as set
use Rattle.book_lists.specs.GroupEntries.{GroupEntries, groups_at, pairs_in}
use Rattle.book_lists.specs.PrincipalSets.{IsAbove, ListsAll, with_paths}
use Rattle.book_lists.specs.Principals.{path_cmp}

-- the direct groups of the member are work, or all groups above it are found
abbrev pub Climbs : GroupEntries → List ℕ → set.FinSet path_cmp → set.FinSet path_cmp → List (List ℕ) → List (List ℕ) → Type 0
Climbs entries member found after work left =
    ((added : List (List ℕ)) × ListsAll (groups_at entries member) added × (left ≡ work ++ added) × (after ≡ found))
    ⊎ ((paths : List (List ℕ)) × IsAbove (pairs_in entries) member (set.from_list paths) × (left ≡ work) × (after ≡ with_paths paths found))
