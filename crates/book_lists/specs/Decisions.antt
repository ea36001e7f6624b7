-- The decision over a list of entries (RFC 3744, section 6).
use Rattle.std.specs.Prelude.{◌≡◌, ◌↔◌, ℕ, Bool, ◌&&◌, List, Option, Some}
use Rattle.book_rights.specs.declared.privileges.Leaf.{Leaf}
use Rattle.book_lists.specs.declared.entries.Entry.{Entry}
use Rattle.book_lists.specs.declared.entries.Here.{Here}
use Rattle.book_lists.specs.declared.decisions.Outcome.{Outcome}
use Rattle.book_lists.specs.declared.decisions.Outcome.TheVariants.{Allowed, Denied}
use Rattle.book_lists.specs.Circles.{CircleOf}
use Rattle.book_lists.specs.Deciding.{DecidesBy, DeniesBy, GrantsBy, IsUndecidedBy, IsAllowedBy, IsDenialBy, IsGrantedSetBy, decider}
use Rattle.book_lists.specs.Entries.{applies}

-- whether the entry applies and holds the leaf
abbrev pub bears : CircleOf → Here → Leaf → Entry → Bool
bears circle here leaf entry = applies entry circle here && entry.set leaf

-- whether the entry denies; else it grants
abbrev pub denying : Entry → Bool
denying entry = entry.deny

module _ (entries : List Entry) (circle : CircleOf) (here : Here) where
  -- the entry at index i decides the leaf: it applies and holds it, and none at an earlier index does both
  abbrev pub Decides : ℕ → Leaf → Entry → Type 0
  Decides = DecidesBy (bears circle here) entries

  -- an entry that denies, or one that grants, decides the leaf
  abbrev pub Denies : ℕ → Leaf → Type 0
  Denies = DeniesBy (bears circle here) denying entries

  abbrev pub Grants : Leaf → Type 0
  Grants = GrantsBy (bears circle here) denying entries

  abbrev pub IsUndecided : Leaf → Type 0
  IsUndecided = IsUndecidedBy (bears circle here) denying entries

  -- every leaf of the need is granted
  abbrev pub IsAllowed : (Leaf → Bool) → Type 0
  IsAllowed = IsAllowedBy (bears circle here) denying entries

  -- What a denial names: the earliest entry that denies a needed leaf, and the least leaf of the need that it
  -- denies; where no entry denies one, the least needed leaf that nothing decides.
  abbrev pub IsDenial : (Leaf → Bool) → Leaf → Option ℕ → Type 0
  IsDenial = IsDenialBy (bears circle here) denying entries

  -- the set of the leaves that are granted
  abbrev pub IsGrantedSet : (Leaf → Bool) → Type 0
  IsGrantedSet = IsGrantedSetBy (bears circle here) denying entries

-- a fact of a denial's leaf and entry, where the outcome is one
abbrev pub IfDenied : Outcome → (Leaf → Option ℕ → Type 0) → Type 0
IfDenied Allowed P = Unit {0}
IfDenied (Denied leaf entry) P = P leaf entry

-- what is found as the decider of a leaf is exactly what decides it
abbrev pub DecidersDecide : Type 0
DecidersDecide = (entries : List Entry) (circle : CircleOf) (here : Here) (i : ℕ) (leaf : Leaf) (entry : Entry)
    → (decider (bears circle here) entries leaf ≡ Some (i, entry)) ↔ Decides entries circle here i leaf entry
