-- Entries as they are read: each by the circle of a caller, at the resource that a need names.
use Rattle.std.specs.Prelude.{◌≡◌, ℕ, Bool, true, ◌⊎◌, List, map, Option}
use Rattle.book_rights.specs.declared.privileges.Leaf.{Leaf}
use Rattle.book_lists.specs.declared.entries.Entry.{Entry}
use Rattle.book_lists.specs.declared.entries.Here.{Here}
use Rattle.book_lists.specs.Circles.{CircleOf}
use Rattle.book_lists.specs.Deciding.{DeniesBy, GrantsBy, IsAllowedBy, IsDenialBy, IsGrantedSetBy}
use Rattle.book_lists.specs.Decisions.{bears}

-- an entry as it is read: by the circle of a caller, at the resource that a need names
pub record Reading : Type 0 where
  pub circle : CircleOf
  pub here : Here
  pub entry : Entry

-- the entries of a list, all read by one circle at one resource
abbrev pub read_by : CircleOf → Here → List Entry → List Reading
read_by circle here entries = map (λ (entry : Entry). record { circle = circle; here = here; entry = entry }) entries

-- whether its entry applies and holds the leaf
abbrev pub bears_read : Leaf → Reading → Bool
bears_read leaf reading = bears reading.circle reading.here leaf reading.entry

abbrev pub denying_read : Reading → Bool
denying_read reading = reading.entry.deny

module _ (readings : List Reading) where
  abbrev pub DeniesRead : ℕ → Leaf → Type 0
  DeniesRead = DeniesBy bears_read denying_read readings

  abbrev pub GrantsRead : Leaf → Type 0
  GrantsRead = GrantsBy bears_read denying_read readings

  -- every leaf of the need is granted; what a denial names; the set of the leaves that are granted
  abbrev pub IsAllowedRead : (Leaf → Bool) → Type 0
  IsAllowedRead = IsAllowedBy bears_read denying_read readings

  abbrev pub IsDenialRead : (Leaf → Bool) → Leaf → Option ℕ → Type 0
  IsDenialRead = IsDenialBy bears_read denying_read readings

  abbrev pub IsGrantedRead : (Leaf → Bool) → Type 0
  IsGrantedRead = IsGrantedSetBy bears_read denying_read readings

  -- the readings settle the need: each of its leaves is granted, or one is denied
  abbrev pub Settles : (Leaf → Bool) → Type 0
  Settles need = IsAllowedRead need ⊎ ((i : ℕ) × (leaf : Leaf) × (need leaf ≡ true) × DeniesRead i leaf)
