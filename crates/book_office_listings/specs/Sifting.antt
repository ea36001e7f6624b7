-- The lists of levels without the entries that apply to a caller at no resource.
use Rattle.std.specs.Prelude.{Bool, true, false, List}
use Rattle.std.specs.List.{flat_map}
use Rattle.book_lists.specs.Circles.{CircleOf}
use Rattle.book_lists.specs.declared.entries.Entry.{Entry}
use Rattle.book_office.specs.declared.nodes.Level.{Level}
use Rattle.book_office_sync.specs.Sifting.{AppliesAs}
use Rattle.book_office_listings.specs.Scanning.{standing_in}
use Rattle.book_office_listings.specs.Verdicts.{bare_entries}
use Rattle.book_office_listings.specs.declared.sifting.Sifted.{Sifted}

-- the entries of the protected lists of levels in turn, or of their own lists
abbrev pub entries_of_levels : Bool → List Level → List Entry
entries_of_levels protected levels = bare_entries (flat_map (standing_in protected) levels)

-- what is kept of the lists of levels applies as they do
pub record IsSifted (circle : CircleOf) (levels : List Level) (sifted : Sifted) : Type 0 where
  pub protected : AppliesAs circle (entries_of_levels true levels) sifted.protected
  pub own : AppliesAs circle (entries_of_levels false levels) sifted.own
