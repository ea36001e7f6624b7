-- Memberships as they are kept: for each member the groups that it is a direct member of.
use Rattle.std.specs.Prelude.{ℕ, List, map, unwrap_or}
use Rattle.std.specs.BTreeMap.{is_at}
use Rattle.std.specs.FinSet as set
use Rattle.std.specs.List.{flat_map}
use Rattle.std.specs.Map.{lookup}
use Rattle.book_lists.specs.Memberships.{Memberships, set_of}
use Rattle.book_lists.specs.Principals.{path_cmp}
use Rattle.book_lists.specs.declared.memberships.Membership.{Membership}

abbrev pub GroupEntries : Type 0
GroupEntries = List (List ℕ × set.FinSet path_cmp)

-- the pairs of a member with some groups
abbrev pub memberships_in : List ℕ → List (List ℕ) → List Membership
memberships_in member groups = map (λ group. record { group = group; member = member }) groups

-- the pairs of one member
abbrev pub pairs_of : List ℕ × set.FinSet path_cmp → List Membership
pairs_of e = map (λ group. record { group = group; member = e.0 }) (set.items e.1)

-- the pairs of all members
abbrev pub pairs_in : GroupEntries → Memberships
pairs_in entries = set_of (flat_map pairs_of entries)

-- the groups that the principal is a direct member of
abbrev pub groups_at : GroupEntries → List ℕ → set.FinSet path_cmp
groups_at entries member = unwrap_or (lookup (is_at (path_cmp member)) entries) set.empty
