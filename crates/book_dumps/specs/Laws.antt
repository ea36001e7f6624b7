-- What the text of an Office tells.
use Rattle.std.specs.Prelude.{◌≡◌, ◌≢◌, List, ◌∷◌, ◌++◌, None, Some, map}
use Rattle.std.specs.List.Sorted.{IsStrictlySortedBy}
use Rattle.book_lists.specs.Principals.{path_cmp}
use Rattle.book_office.specs.Resources.{resource_at}
use Rattle.book_office.specs.Sound.{IsSound}
use Rattle.book_office_values.specs.Paths.{path_text}
use Rattle.book_office_values.specs.declared.offices.Office.{Office}
use Rattle.book_office_values.specs.declared.paths.Path.{Path}
use Rattle.book_dumps.specs.Dumps.{dump_text, lines_of, paths_of}
use Rattle.book_dumps.specs.Lines.{line_text}
use Rattle.book_dumps.specs.Told.{line_at}
use Rattle.book_dumps.specs.declared.lines.Line.{Line}

-- a text is the dump of at most one sound Office
abbrev pub DumpsAreExact : Type 0
DumpsAreExact = (o p : Office) → IsSound o → IsSound p → dump_text o ≡ dump_text p → o ≡ p

-- the element stands in the list
abbrev pub IsAmong : {A : Type 0} → A → List A → Type 0
IsAmong {A} x xs = (front back : List A) × (xs ≡ front ++ x ∷ back)

-- a list has the path of each resource and no other path, in byte order
pub record ListsResources (o : Office) (paths : List Path) : Type 0 where
  pub each : (p : Path) → resource_at o p ≢ None → IsAmong p paths
  pub only : (p : Path) → IsAmong p paths → resource_at o p ≢ None
  pub order : IsStrictlySortedBy path_cmp (map path_text paths)

-- a dump has a line for each resource and no other, in byte order of the paths
abbrev pub DumpsTellEveryResource : Type 0
DumpsTellEveryResource = (o : Office) → IsSound o → ListsResources o (paths_of o)

-- the line of a resource is one of the dump
abbrev pub LinesAreDumped : Type 0
LinesAreDumped = (o : Office) (p : Path) (line : Line) → IsSound o → line_at o p ≡ Some line → IsAmong (line_text line) (lines_of o)
