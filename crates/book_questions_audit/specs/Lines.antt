-- Resources of a part as lines of text (own profile).
use Rattle.std.specs.Prelude.{ℕ, Bool, true, false, List, [], ◌∷◌, ◌++◌, codes, cond, Option, if◌then◌else◌}
use Rattle.std.specs.List.{flat_map}
use Rattle.json.specs.Print.{quoted}
use Rattle.book_lists.specs.declared.entries.Entry.{Entry}
use Rattle.book_office.specs.declared.nodes.Listed.{Listed}
use Rattle.book_office_audit.specs.Audits.{Block}
use Rattle.book_office_audit.specs.EntryLines.{entry_line, owner_text}
use Rattle.book_office_values.specs.Paths.{path_text}
use Rattle.book_questions_audit.specs.declared.parts.Part.{Part}
use Rattle.book_questions_audit.specs.declared.parts.Wanted.{Wanted}

-- the label as a JSON text, where labels are wanted
abbrev pub label_text : Bool → List ℕ → List ℕ
label_text labels label = if labels then codes " label " ++ quoted label else []

-- the path, the owner and the label on a line, and then the protected and the own entries
abbrev pub told_lines : Bool → List ℕ → Option (List ℕ) → List ℕ → List Entry → List Entry → List ℕ
told_lines labels path owner label is_protected own =
    path ++ (codes " owner " ++ (owner_text owner ++ (label_text labels label ++ (codes "\n" ++ (flat_map (entry_line true) is_protected ++ flat_map (entry_line false) own)))))

abbrev pub has_entries : List Entry → Bool
has_entries [] = false
has_entries (entry ∷ entries) = true

module _ (wanted : Wanted) (part : Part) where
  abbrev pub own_blocks : List Block
  own_blocks =
      if part.itself then (path_text part.level.path, told_lines wanted.labels (path_text part.level.path) part.owner part.label part.level.protected part.level.own) ∷ []
      else []

  abbrev pub card_key : Listed → List ℕ
  card_key card = path_text part.level.path ++ codes "/" ++ card.name

  abbrev pub card_block : Listed → Block
  card_block card = (card_key card, told_lines wanted.labels (card_key card) card.owner card.label card.protected card.own)

  -- a card; where cards without own lists are not wanted, none of these
  abbrev pub card_blocks : Listed → List Block
  card_blocks card = if cond wanted.listed (has_entries card.own) true then card_block card ∷ [] else []

  abbrev pub part_blocks : List Block
  part_blocks = own_blocks ++ flat_map card_blocks part.cards
