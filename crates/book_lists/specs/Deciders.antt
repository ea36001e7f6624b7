-- A scan over lists of entries in turn that keeps, for each leaf of a set, which entry decides it.
use Rattle.std.specs.Prelude.{◌≡◌, ◌⊎◌, ℕ, Bool, true, false, ◌&&◌, min, ◌^◌, ◌-◌, List, [], ◌++◌, length, Option, None, Some, is_some, option_map, slice_index}
use Rattle.book_rights.specs.declared.privileges.Leaf.{Leaf}
use Rattle.book_rights.specs.Leaves.{place_of}
use Rattle.book_lists.specs.declared.deciders.Decider.{Decider}
use Rattle.book_lists.specs.declared.deciders.Deciders.{Deciders}
use Rattle.book_lists.specs.Deciding.{decider, granted, denied, undecided}
use Rattle.book_lists.specs.Readings.{Reading, bears_read, denying_read, IsDenialRead}

-- which of the readings decides the leaf, as it is told: its index, and whether it denies
abbrev pub told_decider : List Reading → Leaf → Option Decider
told_decider readings leaf = option_map (λ found. record { index = found.0; deny = denying_read found.1 }) (decider bears_read readings leaf)

-- the leaves that the readings grant, those that they deny, and those that none decides
abbrev pub granted_read : List Reading → Leaf → Bool
granted_read = granted bears_read denying_read

abbrev pub denied_read : List Reading → Leaf → Bool
denied_read = denied bears_read denying_read

abbrev pub undecided_read : List Reading → Leaf → Bool
undecided_read = undecided bears_read denying_read

-- each leaf of the need is decided
abbrev pub AreDecided : (Leaf → Bool) → List Reading → Type 0
AreDecided need readings = (leaf : Leaf) → need leaf ≡ true → undecided_read readings leaf ≡ false

-- the index that is kept for a leaf
abbrev pub index_in : List ℕ → Leaf → ℕ
index_in indexes leaf = slice_index indexes (place_of leaf)

-- the leaf that a denial names, where one is denied
abbrev pub IsFirstDenied : (Leaf → Bool) → List Reading → Option Leaf → Type 0
IsFirstDenied need readings None = (leaf : Leaf) → (need leaf && denied_read readings leaf) ≡ false
IsFirstDenied need readings (Some leaf) = (i : ℕ) × IsDenialRead readings need leaf (Some i)

-- a scan for a set of leaves has come over these readings
pub record IsDeciders (need : Leaf → Bool) (readings : List Reading) (d : Deciders) : Type 0 where
  pub left : (leaf : Leaf) → d.open leaf ≡ (need leaf && undecided_read readings leaf)
  pub granted : (leaf : Leaf) → d.granted leaf ≡ (need leaf && granted_read readings leaf)
  pub denied : (leaf : Leaf) → d.denied leaf ≡ (need leaf && denied_read readings leaf)
  pub first : IsFirstDenied need readings d.first
  pub indexes : (leaf : Leaf) (found : ℕ × Reading) → need leaf ≡ true → decider bears_read readings leaf ≡ Some found → index_in d.indexes leaf ≡ min found.0 (2 ^ 64 - 1)
  pub passed : d.passed ≡ min (length readings) (2 ^ 64 - 1)

-- a fact of each set of leaves and each list of readings that the scan may have come over
abbrev pub IfDeciders : Deciders → ((Leaf → Bool) → List Reading → Type 0) → Type 0
IfDeciders d P = (need : Leaf → Bool) (readings : List Reading) → IsDeciders need readings d → P need readings

-- ---- a scan that goes no further than what settles the set as a need
-- it has come over these readings: it has looked at the first of them, and at all but where a needed leaf is denied
pub record IsJudged (need : Leaf → Bool) (readings : List Reading) (d : Deciders) : Type 0 where
  pub seen : List Reading
  pub unseen : List Reading
  pub parts : readings ≡ seen ++ unseen
  pub state : IsDeciders need seen (record d { passed = min (length seen) (2 ^ 64 - 1) })
  pub passed : d.passed ≡ min (length readings) (2 ^ 64 - 1)
  pub ended : (unseen ≡ []) ⊎ (is_some d.first ≡ true)

abbrev pub IfJudged : Deciders → ((Leaf → Bool) → List Reading → Type 0) → Type 0
IfJudged d P = (need : Leaf → Bool) (readings : List Reading) → IsJudged need readings d → P need readings
