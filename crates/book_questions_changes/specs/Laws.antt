-- What `unchanged` says of two Offices.
use Rattle.std.specs.Prelude.{◌≡◌, ◌↔◌, ℕ, true, List, codes, Option, Some, None}
use Rattle.std.specs.FinMap.{get}
use Rattle.book_rights.specs.declared.privileges.Leaf.{Leaf}
use Rattle.book_office.specs.Resources.{Resource, resource_at}
use Rattle.book_office.specs.Sound.{IsSound}
use Rattle.book_office_adopting.specs.Adopting.{adopt}
use Rattle.book_office_values.specs.declared.offices.Book.{Book}
use Rattle.book_office_values.specs.declared.offices.Office.{Office}
use Rattle.book_office_values.specs.declared.paths.Path.{Path}
use Rattle.book_policy_values.specs.declared.parts.PolicyTables.{PolicyTables}
use Rattle.book_questions_rights.specs.Places.{is_itself}
use Rattle.book_questions_differs.specs.Laws.{Holds}
use Rattle.book_questions_changes.specs.Changes.{IsChanges}

-- ---- what is compared
-- resources with the same owner, label and lists, or none
abbrev pub IsEqualIn : Option Resource → Option Resource → Type 0
IsEqualIn None None = Unit {0}
IsEqualIn None (Some after) = ⊥
IsEqualIn (Some before) None = ⊥
IsEqualIn (Some before) (Some after) = (before.owner ≡ after.owner) × (before.label ≡ after.label) × (before.protected ≡ after.protected) × (before.own ≡ after.own)

-- both Offices have the same direct memberships and the same resources that are no cards, and grant the same rights
pub record AreUnchanged (o p : Office) : Type 0 where
  pub members : o.pairs ≡ p.pairs
  pub resources : (at : Path) → is_itself at ≡ true → IsEqualIn (resource_at o at) (resource_at p at)
  pub rights : (name : Option (List ℕ)) (at : Path) (leaf : Leaf) → Holds o name at leaf ↔ Holds p name at leaf

-- `unchanged` is told of sound Offices exactly where that is so
abbrev pub UnchangedIsTold : Type 0
UnchangedIsTold = (o p : Office) (text : List ℕ) → IsSound o → IsSound p → IsChanges o p text → (text ≡ codes "unchanged\n") ↔ AreUnchanged o p

-- ---- Offices with the same cards
-- books that are in both Offices have the same cards, and the same numbers of changes
abbrev pub HaveSameCards : Office → Office → Type 0
HaveSameCards o p = (b : List ℕ) (before after : Book) → get o.books b ≡ Some before → get p.books b ≡ Some after
    → (before.cards ≡ after.cards) × (before.changes ≡ after.changes)

-- the one Office is the other with its own epoch
abbrev pub IsSameButEpoch : Office → Office → Type 0
IsSameButEpoch o p = o ≡ record p { epoch = o.epoch }

-- of sound Offices with the same cards, `unchanged` is told exactly where they are equal but for the epoch
abbrev pub UnchangedIsEqual : Type 0
UnchangedIsEqual = (o p : Office) (text : List ℕ) → IsSound o → IsSound p → HaveSameCards o p → IsChanges o p text
    → (text ≡ codes "unchanged\n") ↔ IsSameButEpoch o p

-- of an Office and what an adoption makes of it, `unchanged` is told exactly where the adoption changes nothing
abbrev pub UnchangedIsNoAdoption : Type 0
UnchangedIsNoAdoption = (t : PolicyTables) (o : Office) (text : List ℕ) → IsSound o → IsSound (adopt t o) → IsChanges o (adopt t o) text
    → (text ≡ codes "unchanged\n") ↔ (adopt t o ≡ o)
