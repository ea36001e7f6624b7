-- What becomes of the access entries of schema version 1, which knew eight leaves: of `read` there were made two (own profile).
use Rattle.std.specs.Prelude.{◌≡◌, ◌↔◌, ℕ, Bool, true, false, ◌&&◌, ◌||◌, ◌+◌, ◌*◌, ◌%◌, ◌<◌, List, map, Option, nat_eq, codes}
use Rattle.std.specs.List.{AllByRecursion}
use Rattle.book_rights.specs.declared.privileges.Leaf.{Leaf}
use Rattle.book_rights.specs.declared.privileges.Leaf.TheVariants.{ReadTexts, WriteContent, WriteProperties, Bind, Unbind, ReadAcl, WriteAcl, ReadCurrentUserPrivilegeSet, ReadNames}
use Rattle.book_rights.specs.declared.methods.Method.{Method}
use Rattle.book_rights.specs.declared.methods.Shape.{Shape}
use Rattle.book_rights.specs.declared.places.Need.{Need}
use Rattle.book_rights.specs.Leaves.{place_of, leaves_in}
use Rattle.book_rights.specs.Needs.{needs_of}
use Rattle.book_rights.specs.Privileges.{leaf_name, name_of, denied_name}
use Rattle.book_lists.specs.declared.entries.Entry.{Entry}
use Rattle.book_lists.specs.declared.entries.Here.{Here}
use Rattle.book_lists.specs.Circles.{CircleOf}
use Rattle.book_lists.specs.Decisions.{IsAllowed, IsDenial, IsGrantedSet}

-- a set of the eight leaves of version 1, of which the first is now `x-read-texts`
abbrev pub IsOfFirst : (Leaf → Bool) → Type 0
IsOfFirst set = set ReadNames ≡ false

-- the set with `x-read-names`, where it has `x-read-texts`
abbrev pub widened : (Leaf → Bool) → Leaf → Bool
widened set leaf = set leaf || (nat_eq (place_of leaf) (place_of ReadNames) && set ReadTexts)

abbrev pub widened_entry : Entry → Entry
widened_entry e = record e { set = widened e.set }

-- how version 1 names a leaf
abbrev pub first_name : Leaf → List ℕ
first_name ReadTexts = codes "read"
first_name WriteContent = leaf_name WriteContent
first_name WriteProperties = leaf_name WriteProperties
first_name Bind = leaf_name Bind
first_name Unbind = leaf_name Unbind
first_name ReadAcl = leaf_name ReadAcl
first_name WriteAcl = leaf_name WriteAcl
first_name ReadCurrentUserPrivilegeSet = leaf_name ReadCurrentUserPrivilegeSet
first_name ReadNames = leaf_name ReadNames

-- the decision on a need over a list is the one on the widened need over the widened list: it is granted where it was, the same
-- entry denies the same leaf, and that is named as it was
pub record IsDecidedAlike (entries : List Entry) (circle : CircleOf) (here : Here) (need : Leaf → Bool) : Type 0 where
  pub allowed : IsAllowed entries circle here need ↔ IsAllowed (map widened_entry entries) circle here (widened need)
  pub denied : (leaf : Leaf) (index : Option ℕ) → IsDenial entries circle here need leaf index
      → IsDenial (map widened_entry entries) circle here (widened need) leaf index
  pub named : (leaf : Leaf) → need leaf ≡ true → name_of (denied_name leaf (widened need)) ≡ first_name leaf
  pub granted : (set : Leaf → Bool) → IsGrantedSet entries circle here set → IsGrantedSet (map widened_entry entries) circle here (widened set)

abbrev pub WidenedListsDecideAlike : Type 0
WidenedListsDecideAlike = (entries : List Entry) (circle : CircleOf) (here : Here) (need : Leaf → Bool)
    → AllByRecursion (λ (e : Entry). IsOfFirst e.set) entries → IsOfFirst need → IsDecidedAlike entries circle here need

-- a set that was made of one of version 1
abbrev pub IsWidened : (Leaf → Bool) → Type 0
IsWidened set = (first : Leaf → Bool) × IsOfFirst first × (set ≡ widened first)

-- each need of a request is such a set; the report of names, which version 1 did not know, needs a leaf of its own
abbrev pub NeedsAreWidened : Type 0
NeedsAreWidened = (method : Method) (shape : Shape) → shape.names ≡ false
    → AllByRecursion (λ (need : Need). IsWidened need.set) (needs_of method shape)

-- a mask of version 1 with bit 8, where it has bit 0
abbrev pub widened_mask : ℕ → ℕ
widened_mask mask = mask + 256 * (mask % 2)

abbrev pub WidenedMasksAreWidenedSets : Type 0
WidenedMasksAreWidenedSets = (mask : ℕ) → mask < 256 → (widened_mask mask < 512) × (leaves_in (widened_mask mask) ≡ widened (leaves_in mask))
