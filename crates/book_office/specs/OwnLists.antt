-- What an ACL request leaves as it is.
use Rattle.std.specs.Prelude.{◌≡◌, ◌↔◌, ℕ, ◌<◌, List, length, map}
use Rattle.std.specs.List.{flat_map}
use Rattle.book_rights.specs.declared.privileges.Leaf.{Leaf}
use Rattle.book_lists.specs.Circles.{CircleOf}
use Rattle.book_lists.specs.Decisions.{Decides}
use Rattle.book_lists.specs.declared.entries.Entry.{Entry}
use Rattle.book_lists.specs.declared.entries.Here.{Here}
use Rattle.book_office.specs.declared.nodes.EffectiveEntry.{EffectiveEntry}
use Rattle.book_office_values.specs.declared.offices.Office.{Office}
use Rattle.book_office_values.specs.declared.paths.Path.{Path}
use Rattle.book_office.specs.Edits.{apply}
use Rattle.book_office.specs.declared.edits.Edit.TheVariants.{SetList}
use Rattle.book_office.specs.Levels.{protected_at, lists_at, protected_entries, effective_at}

-- no protected list changes, at any path
abbrev pub ProtectedListsStay : Type 0
ProtectedListsStay = (o : Office) (p q : Path) (list : List Entry)
    → protected_at (apply o (SetList p list)) q ≡ protected_at o q

-- the protected entries of a resource and its ancestors: the first part of its effective list
abbrev pub protected_in_force : Office → Path → List EffectiveEntry
protected_in_force o p = flat_map protected_entries (lists_at o p).levels

abbrev pub ProtectedEntriesStay : Type 0
ProtectedEntriesStay = (o : Office) (p q : Path) (list : List Entry)
    → protected_in_force (apply o (SetList p list)) q ≡ protected_in_force o q

abbrev pub entries_in_force : Office → Path → List Entry
entries_in_force o p = map (λ (e : EffectiveEntry). e.entry) (effective_at o p)

-- the leaves that protected entries decide are decided as before, for every caller
abbrev pub ProtectedDecisionsStay : Type 0
ProtectedDecisionsStay = (o : Office) (p q : Path) (list : List Entry)
    (circle : CircleOf) (here : Here) (i : ℕ) (leaf : Leaf) (entry : Entry)
    → i < length (protected_in_force o q)
    → Decides (entries_in_force o q) circle here i leaf entry
    ↔ Decides (entries_in_force (apply o (SetList p list)) q) circle here i leaf entry
