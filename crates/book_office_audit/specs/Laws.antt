-- What an audit tells, as a map from paths.
use Rattle.std.specs.Prelude.{◌≡◌, ◌≢◌, ℕ, List, None, option_map}
use Rattle.std.specs.FinMap.{empty, get}
use Rattle.book_office.specs.Resources.{Resource, resource_at}
use Rattle.book_office.specs.Sound.{IsSound}
use Rattle.book_office_values.specs.Names.{NamesTo}
use Rattle.book_office_values.specs.Paths.{IsPath, path_text}
use Rattle.book_office_values.specs.declared.offices.Office.{Office}
use Rattle.book_office_values.specs.declared.paths.Path.{Path}
use Rattle.book_office_audit.specs.Audits.{blocks_of, contents_of, gathered}
use Rattle.book_office_audit.specs.EntryLines.{resource_lines}

-- the lines of the resource at a path
abbrev pub lines_at : Path → Resource → List ℕ
lines_at p r = resource_lines (path_text p) r.owner r.protected r.own

-- a map that has at the text of each path the lines of the resource there, and nothing at any other text
pub record TellsResources (o : Office) (told : NamesTo (List ℕ)) : Type 0 where
  pub each : (p : Path) → IsPath p → get told (path_text p) ≡ option_map (lines_at p) (resource_at o p)
  pub only : (text : List ℕ) → get told text ≢ None → (p : Path) × IsPath p × (text ≡ path_text p)

-- an audit of a sound Office tells each of its resources once, and nothing else, in byte order of the texts of the paths
abbrev pub AuditsTellEveryResource : Type 0
AuditsTellEveryResource = (o : Office) → IsSound o → TellsResources o (gathered empty (blocks_of (contents_of o)))
