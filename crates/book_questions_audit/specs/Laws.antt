-- What an audit of a part tells, as a map from the texts of paths.
use Rattle.std.specs.Prelude.{◌≡◌, ◌≢◌, ℕ, Bool, true, false, cond, List, Contains, Some, None, map, if◌then◌else◌}
use Rattle.std.specs.FinMap.{empty, get}
use Rattle.std.specs.List.{flat_map}
use Rattle.book_office.specs.Resources.{Resource, resource_at}
use Rattle.book_office.specs.Sound.{IsSound}
use Rattle.book_office_audit.specs.Audits.{blocks_of, contents_of, gathered}
use Rattle.book_office_values.specs.Names.{NamesTo}
use Rattle.book_office_values.specs.Paths.{levels, path_text}
use Rattle.book_office_values.specs.declared.offices.Office.{Office}
use Rattle.book_office_values.specs.declared.paths.Path.{Path}
use Rattle.book_questions_rights.specs.Places.{asked_below, is_itself}
use Rattle.book_questions_audit.specs.Lines.{has_entries, part_blocks, told_lines}
use Rattle.book_questions_audit.specs.Parts.{part_of}
use Rattle.book_questions_audit.specs.declared.parts.Wanted.{Wanted}

-- what is told of the resources at a path and below it
abbrev pub told_in : Office → Wanted → Path → NamesTo (List ℕ)
told_in o wanted p = gathered empty (flat_map (part_blocks wanted) (map (part_of o) (asked_below o p)))

-- a resource at the path or below it
pub record IsPart (o : Office) (p q : Path) (r : Resource) : Type 0 where
  pub below : Contains (levels q) p
  pub there : resource_at o q ≡ Some r

-- the lines of the resource at a path
abbrev pub lines_at : Wanted → Path → Resource → List ℕ
lines_at wanted q r = told_lines wanted.labels (path_text q) r.owner r.label r.protected r.own

-- each resource is told; where cards without a list of their own are not wanted, none of these
abbrev pub is_wanted : Wanted → Path → Resource → Bool
is_wanted wanted q r = cond (is_itself q) true (cond wanted.listed (has_entries r.own) true)

-- a map that has at the text of each path at the part or below it the lines of the resource there, where it is wanted, and nothing at
-- any other text
pub record TellsPartOf (o : Office) (wanted : Wanted) (p : Path) (told : NamesTo (List ℕ)) : Type 0 where
  pub each : (q : Path) (r : Resource) → IsPart o p q r → get told (path_text q) ≡ (if is_wanted wanted q r then Some (lines_at wanted q r) else None)
  pub only : (text : List ℕ) → get told text ≢ None → (q : Path) × (r : Resource) × IsPart o p q r × (text ≡ path_text q)

-- an audit of a part of a sound Office tells each resource at the path and below it once, where it is wanted, and nothing else
abbrev pub PartsTellEveryResource : Type 0
PartsTellEveryResource = (o : Office) (wanted : Wanted) (p : Path) → IsSound o → resource_at o p ≢ None → TellsPartOf o wanted p (told_in o wanted p)

-- without labels these are the lines of the whole audit
abbrev pub PartsAreOfTheAudit : Type 0
PartsAreOfTheAudit = (o : Office) (wanted : Wanted) (p : Path) (text lines : List ℕ) → IsSound o → resource_at o p ≢ None → wanted.labels ≡ false
    → get (told_in o wanted p) text ≡ Some lines → get (gathered empty (blocks_of (contents_of o))) text ≡ Some lines
