-- How entries are looked at: one list after another, the protected lists of all levels first. Nothing is joined.
use Rattle.std.specs.Prelude.{Bool, List, map, Option, Some, None}
use Rattle.book_rights.specs.declared.privileges.Leaf.{Leaf}
use Rattle.book_rights.specs.Leaves.{every_leaf}
use Rattle.book_lists.specs.Circles.{CircleOf}
use Rattle.book_lists.specs.Readings.{read_by}
use Rattle.book_lists.specs.Deciders.{IsDeciders}
use Rattle.book_lists.specs.declared.entries.Here.{Here}
use Rattle.book_office_values.specs.declared.paths.Path.{Path}
use Rattle.book_office.specs.InForce.{list_in}
use Rattle.book_office.specs.Levels.{standing_at}
use Rattle.book_office.specs.declared.nodes.EffectiveEntry.{EffectiveEntry}
use Rattle.book_office.specs.declared.nodes.Level.{Level}
use Rattle.book_office_listings.specs.Rulings.{IsRuling}
use Rattle.book_office_listings.specs.Verdicts.{bare_entries, IsGrantedBy, IsDeniedBy}
use Rattle.book_lists.specs.declared.deciders.Deciders.{Deciders}
use Rattle.book_office_listings.specs.declared.messages.Denial.{Denial}
use Rattle.book_office_listings.specs.declared.messages.Ruling.{Ruling}

-- the entries of the protected list of a level, or of its own list, with where they stand
abbrev pub standing_in : Bool → Level → List EffectiveEntry
standing_in protected level = map (standing_at level.path protected) (list_in protected level)

module _ (list : List EffectiveEntry) (circle : CircleOf) (here : Here) where
  -- which entry decides each leaf of a set was asked of these entries
  abbrev pub IsWalk : (Leaf → Bool) → Deciders → Type 0
  IsWalk set deciders = IsDeciders set (read_by circle here (bare_entries list)) deciders

  -- the decision on a set at a resource: none where it is granted, and else the denial
  abbrev pub IsVerdict : Path → (Leaf → Bool) → Option Denial → Type 0
  IsVerdict p set None = IsGrantedBy list circle here set
  IsVerdict p set (Some denial) = IsDeniedBy list circle here p set denial

-- the ruling on a leaf by these entries, which were asked for every leaf
pub record IsRuledBy (list : List EffectiveEntry) (deciders : Deciders) (leaf : Leaf) (ruling : Ruling) : Type 0 where
  pub rules : (circle : CircleOf) (here : Here) → IsWalk list circle here every_leaf deciders → IsRuling list circle here leaf ruling
