-- The lists in force at a path (RFC 3744, section 5.5; their order is own profile).
use Rattle.std.specs.Prelude.{Bool, true, false, List, [], ◌++◌, map, option_map, unwrap_or}
use Rattle.std.specs.List.{flat_map}
use Rattle.book_lists.specs.declared.entries.Entry.{Entry}
use Rattle.book_office.specs.declared.nodes.EffectiveEntry.{EffectiveEntry}
use Rattle.book_office.specs.declared.nodes.Level.{Level}
use Rattle.book_office.specs.declared.nodes.Lists.{Lists}
use Rattle.book_office_values.specs.declared.offices.Office.{Office}
use Rattle.book_office_values.specs.declared.paths.Path.{Path}
use Rattle.book_office_values.specs.Paths.{levels}
use Rattle.book_office.specs.Resources.{Resource, resource_at}

-- the protected list that stands at a path
abbrev pub protected_at : Office → Path → List Entry
protected_at o p = unwrap_or (option_map (λ (r : Resource). r.protected) (resource_at o p)) []

-- the own list that stands at a path
abbrev pub own_at : Office → Path → List Entry
own_at o p = unwrap_or (option_map (λ (r : Resource). r.own) (resource_at o p)) []

abbrev pub level_at : Office → Path → Level
level_at o p = record { path = p; protected = protected_at o p; own = own_at o p }

-- the lists of the resource, of its parent, and so on up to the root
abbrev pub lists_at : Office → Path → Lists
lists_at o p = record { levels = map (level_at o) (levels p) }

-- an entry with the path where it stands
abbrev pub standing_at : Path → Bool → Entry → EffectiveEntry
standing_at p is_protected entry = record { path = p; protected = is_protected; entry = entry }

abbrev pub protected_entries : Level → List EffectiveEntry
protected_entries level = map (standing_at level.path true) level.protected

abbrev pub own_entries : Level → List EffectiveEntry
own_entries level = map (standing_at level.path false) level.own

-- the protected entries of all levels, and then the own entries of all levels
abbrev pub effective_of : List Level → List EffectiveEntry
effective_of ls = flat_map protected_entries ls ++ flat_map own_entries ls

-- the effective list of a resource
abbrev pub effective_at : Office → Path → List EffectiveEntry
effective_at o p = effective_of (lists_at o p).levels
