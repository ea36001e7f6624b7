-- Which entry decides each leaf (RFC 3744, section 6; the report is own profile).
use Rattle.std.specs.Prelude.{◌≡◌, ◌↔◌, ℕ, Bool, true, false, not, is_some, List, Option, Some, None}
use Rattle.std.specs.List.{AllZip}
use Rattle.book_lists_explain.specs.ShortNames.{all_leaves}
use Rattle.book_rights.specs.declared.privileges.Leaf.{Leaf}
use Rattle.book_lists.specs.Circles.{CircleOf}
use Rattle.book_lists.specs.Decisions.{Decides, Grants, IsUndecided}
use Rattle.book_lists.specs.declared.entries.Entry.{Entry}
use Rattle.book_lists.specs.declared.entries.Here.{Here}
use Rattle.book_office_listings.specs.Verdicts.{deciding_entry, bare_entries, here_of, paths_of}
use Rattle.book_office.specs.Levels.{effective_at}
use Rattle.book_office.specs.Resources.{resource_at}
use Rattle.book_office.specs.declared.nodes.EffectiveEntry.{EffectiveEntry}
use Rattle.book_office_values.specs.declared.offices.Office.{Office}
use Rattle.book_office_values.specs.declared.paths.Path.{Path}
use Rattle.book_office_listings.specs.declared.messages.Ruling.{Ruling}

module _ (list : List EffectiveEntry) (circle : CircleOf) (here : Here) where
  -- the entry at the index decides the leaf, and grants it or not; or none decides it, and it isn't granted
  abbrev pub IsDecidedBy : Leaf → Option ℕ → Bool → Type 0
  IsDecidedBy leaf (Some i) grant = (entry : Entry) × Decides (bare_entries list) circle here i leaf entry × (grant ≡ not entry.deny)
  IsDecidedBy leaf None grant = IsUndecided (bare_entries list) circle here leaf × (grant ≡ false)

  -- the ruling on a leaf: the entry that decides it, with its path and number, and whether it grants
  pub record IsRuling (leaf : Leaf) (ruling : Ruling) : Type 0 where
    pub index : Option ℕ
    pub leaf_is : ruling.leaf ≡ leaf
    pub entry : ruling.entry ≡ deciding_entry (paths_of list) index
    pub decided : IsDecidedBy leaf index ruling.grant

  -- one for each leaf, in order
  abbrev pub AreRulings : List Ruling → Type 0
  AreRulings rulings = AllZip IsRuling all_leaves rulings

module _ (o : Office) (circle : CircleOf) (p : Path) where
  -- the rulings at a resource by the entries in force there, with its own owner; none where nothing is mapped
  abbrev pub AreRulingsAt : Option (List Ruling) → Type 0
  AreRulingsAt None = resource_at o p ≡ None
  AreRulingsAt (Some rulings) = (is_some (resource_at o p) ≡ true) × AreRulings (effective_at o p) circle (here_of o p) rulings

-- a leaf is granted exactly where its ruling grants it
abbrev pub RulingsAreTheGrants : Type 0
RulingsAreTheGrants = (list : List EffectiveEntry) (circle : CircleOf) (here : Here) (leaf : Leaf) (ruling : Ruling)
    → IsRuling list circle here leaf ruling → (ruling.grant ≡ true) ↔ Grants (bare_entries list) circle here leaf
