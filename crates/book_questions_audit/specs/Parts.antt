-- What an audit of a part reads: each resource at a path or below it that is no card, with its lists, and the cards in it.
use Rattle.std.specs.Prelude.{ℕ, List, [], Option, option_and_then, option_map, unwrap_or}
use Rattle.book_office.specs.Levels.{level_at}
use Rattle.book_office.specs.Resources.{node_at}
use Rattle.book_office.specs.declared.nodes.Listed.{Listed}
use Rattle.book_office.specs.declared.nodes.Node.{Node}
use Rattle.book_office_values.specs.declared.offices.Office.{Office}
use Rattle.book_office_values.specs.declared.paths.Path.{Path}
use Rattle.book_questions_rights.specs.Places.{cards_of, is_itself, place_path}
use Rattle.book_questions_audit.specs.declared.parts.Part.{Part}
use Rattle.book_questions_audit.specs.declared.parts.Standing.{Standing}

abbrev pub owner_in : Option Node → Option (List ℕ)
owner_in node = option_and_then (λ (n : Node). n.owner) node

abbrev pub label_in : Option Node → List ℕ
label_in node = unwrap_or (option_map (λ (n : Node). n.label) node) []

abbrev pub standing_of : Office → Path → Standing
standing_of o p = record { node = node_at o p; level = level_at o p }

abbrev pub part_with : Path → Standing → List Listed → Part
part_with p standing cards = record { itself = is_itself p; owner = owner_in standing.node; label = label_in standing.node; level = standing.level; cards = cards }

-- what is read at a path; of a card its book, for the card alone
abbrev pub part_of : Office → Path → Part
part_of o p = part_with p (standing_of o (place_path p)) (cards_of o p)
