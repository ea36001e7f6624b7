-- How two Offices differ: their direct memberships, their resources that are no cards, and the rights that they grant.
use Rattle.std.specs.Prelude.{◌≡◌, ℕ, ◌==◌, List, ◌++◌, codes, decimal, map, count_by, if◌then◌else◌}
use Rattle.book_office_audit.specs.Audits.{in_order}
use Rattle.book_office_values.specs.declared.offices.Office.{Office}
use Rattle.book_office_values.specs.declared.paths.Path.{Path}
use Rattle.book_questions_differs.specs.Differences.{IsDifferences}
use Rattle.book_questions_differs.specs.Places.{found_at, paths_of_either}
use Rattle.book_questions_differs.specs.declared.places.Spot.{Spot}
use Rattle.book_questions_changes.specs.Facts.{spot_block}
use Rattle.book_questions_changes.specs.Members.{IsMembersText}

-- how many lines a text has
abbrev pub line_count : List ℕ → ℕ
line_count text = count_by (λ byte. byte == 10) text

-- the last line: how many lines there are before it
abbrev pub last_line : ℕ → List ℕ
last_line count = if count == 0 then codes "unchanged\n" else codes "differs in " ++ (decimal count ++ codes "\n")

abbrev pub with_last : List ℕ → List ℕ
with_last text = text ++ last_line (line_count text)

module _ (o p : Office) where
  -- a resource of both, as it is
  abbrev pub spot_at : Path → Spot
  spot_at at = record { path = at; before = found_at o at; after = found_at p at }

  -- what differs at some paths, in byte order of these
  abbrev pub facts_at : List Path → List ℕ
  facts_at paths = in_order (map (λ (at : Path). spot_block (spot_at at)) paths)

  abbrev pub facts_text : List ℕ
  facts_text = facts_at (paths_of_either o p)

  -- the memberships, the resources, and the rights
  pub record AreParts (members facts rights : List ℕ) : Type 0 where
    pub are_members : IsMembersText o.pairs p.pairs members
    pub are_facts : facts ≡ facts_text
    pub are_rights : IsDifferences o p rights

  abbrev pub IsChanges : List ℕ → Type 0
  IsChanges text = (members : List ℕ) × (facts : List ℕ) × (rights : List ℕ) × AreParts members facts rights × (text ≡ with_last (members ++ (facts ++ rights)))
