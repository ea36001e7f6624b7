-- The entries in force at a path, without where they stand (RFC 3744, section 5.5; their order is own profile).
use Rattle.std.specs.Prelude.{◌≡◌, Bool, true, false, List, ◌++◌, Option, Some, None}
use Rattle.std.specs.List.{flat_map}
use Rattle.book_rights.specs.declared.privileges.Leaf.{Leaf}
use Rattle.book_lists.specs.Circles.{CircleOf}
use Rattle.book_lists.specs.Decisions.{IsAllowed}
use Rattle.book_lists.specs.declared.entries.Entry.{Entry}
use Rattle.book_lists.specs.declared.entries.Here.{Here}
use Rattle.book_office.specs.declared.nodes.Level.{Level}
use Rattle.book_office.specs.declared.nodes.Lists.{Lists}
use Rattle.book_office_values.specs.declared.offices.Office.{Office}
use Rattle.book_office_values.specs.declared.paths.Path.{Path}
use Rattle.book_office.specs.Levels.{lists_at}

-- the protected list of a level, or its own list
abbrev pub list_in : Bool → Level → List Entry
list_in true level = level.protected
list_in false level = level.own

-- the lists of one kind of all levels
abbrev pub lists_in : Bool → List Level → List Entry
lists_in protected levels = flat_map (list_in protected) levels

-- the protected entries of all levels, and then the own entries of all levels
abbrev pub in_force : List Level → List Entry
in_force levels = lists_in true levels ++ lists_in false levels

abbrev pub in_force_at : Office → Path → List Entry
in_force_at o p = in_force (lists_at o p).levels

-- none where the entries in force at a path grant the set, and else the lists that stand there and above
abbrev pub AreUnlessGranted : Office → Path → CircleOf → Here → (Leaf → Bool) → Option Lists → Type 0
AreUnlessGranted o p circle here set None = IsAllowed (in_force_at o p) circle here set
AreUnlessGranted o p circle here set (Some lists) = (IsAllowed (in_force_at o p) circle here set → ⊥) × (lists ≡ lists_at o p)
