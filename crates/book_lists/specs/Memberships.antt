-- Membership of groups (RFC 3744, section 2): direct pairs, and chains of them.
use Rattle.std.specs.Prelude.{◌≡◌, ◌↔◌, ℕ, ◌⊎◌, Bool, true, ◌&&◌, ◌||◌, List, [], ◌∷◌, refl}
use Rattle.std.specs.Coded.{Coded, code_by, coded×, coded_list, coded_ℕ}
use Rattle.std.specs.FinSet as set
use Rattle.std.specs.Ordering.{nat_cmp, ordering_then}
use Rattle.std.specs.Str.{bytes_eq}
use Rattle.std.specs.declared.cmp.Ordering.{Ordering}
use Rattle.std.specs.Cmp.Lexicographic.{slice_cmp}
use Rattle.book_lists.specs.declared.memberships.Membership.{Membership}

-- pairs are ordered by the group, and then by the member
abbrev pub membership_cmp : Membership → Membership → Ordering
membership_cmp a b = ordering_then (slice_cmp nat_cmp a.group b.group) (slice_cmp nat_cmp a.member b.member)

-- a membership is stored as the pair of its principals
abbrev pub coded_membership : Coded Membership
coded_membership = code_by (List ℕ × List ℕ) (coded× (coded_list coded_ℕ) (coded_list coded_ℕ)) (λ e. (e.group, e.member)) (λ p. record { group = p.0; member = p.1 }) (λ _. refl)

-- a finite set of direct memberships
abbrev pub Memberships : Type 0
Memberships = set.FinSet membership_cmp

abbrev pub set_of : List Membership → Memberships
set_of pairs = set.from_list pairs

-- the member is a direct member of the group
abbrev pub IsDirect : Memberships → List ℕ → List ℕ → Type 0
IsDirect pairs group member = set.contains pairs (record { group = group; member = member }) ≡ true

-- these pairs and those of a list
abbrev pub with_pairs : List Membership → Memberships → Memberships
with_pairs [] pairs = pairs
with_pairs (pair ∷ more) pairs = with_pairs more (set.insert pairs pair)

-- the member has these groups more
abbrev pub GetsGroups : Memberships → List ℕ → (List ℕ → Bool) → Memberships → Type 0
GetsGroups old member groups new =
    (group p : List ℕ) → set.contains new (record { group = group; member = p }) ≡ ((bytes_eq p member && groups group) || set.contains old (record { group = group; member = p }))

-- no pair is lost
abbrev pub Holds : Memberships → Memberships → Type 0
Holds old new = (group p : List ℕ) → IsDirect old group p → IsDirect new group p

-- the direct memberships of one group
abbrev pub members_of : Memberships → List ℕ → Memberships
members_of pairs group = set.retain pairs (λ (m : Membership). bytes_eq m.group group)

-- from a group to a direct member, and so on through the list, down to p, which is its last
abbrev pub Descends : Memberships → List ℕ → List (List ℕ) → List ℕ → Type 0
Descends pairs group [] p = group ≡ p
Descends pairs group (member ∷ members) p = IsDirect pairs group member × Descends pairs member members p

-- a finite chain of one or more direct memberships leads from the group to p
abbrev pub Chain : Memberships → List ℕ → List ℕ → Type 0
Chain pairs p group = (member : List ℕ) × (members : List (List ℕ)) × Descends pairs group (member ∷ members) p

-- exactly the pairs of a group and a principal that a chain leads to from it
abbrev pub IsReachOf : Memberships → Memberships → Type 0
IsReachOf pairs reach = (group p : List ℕ) → (IsDirect reach group p) ↔ Chain pairs p group

-- a principal belongs to itself, and to each group from which a chain leads to it
abbrev pub Belongs : Memberships → List ℕ → List ℕ → Type 0
Belongs pairs p group = (p ≡ group) ⊎ Chain pairs p group
