-- The audit of a part of an Office (own profile).
use Rattle.std.specs.Prelude.{◌≡◌, ◌⊎◌, ℕ, List, map, Option, Result, Ok, Err}
use Rattle.std.specs.List.{flat_map}
use Rattle.book_machine.specs.Needing.{mapped_at}
use Rattle.book_machine.specs.declared.refusals.Refusal.{Refusal}
use Rattle.book_machine.specs.declared.refusals.Refusal.TheVariants.{Unavailable}
use Rattle.book_office_audit.specs.Audits.{in_order}
use Rattle.book_office_values.specs.declared.offices.Office.{Office}
use Rattle.book_office_values.specs.declared.paths.Path.{Path}
use Rattle.book_questions_rights.specs.Places.{asked_below}
use Rattle.book_questions_audit.specs.Lines.{part_blocks}
use Rattle.book_questions_audit.specs.Parts.{part_of}
use Rattle.book_questions_audit.specs.declared.parts.Wanted.{Wanted}

-- the lines of each resource at the path or below it, in byte order of the paths
abbrev pub part_text : Office → Wanted → Path → List ℕ
part_text o wanted p = in_order (flat_map (part_blocks wanted) (map (part_of o) (asked_below o p)))

-- the answer: the text, or that nothing is mapped at the path, or want of memory or a failed store
abbrev pub TellsPart : Office → Option Path → Wanted → Result (List ℕ) Refusal → Type 0
TellsPart o p wanted (Ok text) = (at : Path) × (mapped_at o p ≡ Ok at) × (text ≡ part_text o wanted at)
TellsPart o p wanted (Err e) = (e ≡ Unavailable) ⊎ (mapped_at o p ≡ Err e)
