use Rattle.book_questions_json.proofs.Common.{◌≡◌, map, take}
use Rattle.serde_json.specs.View.{view}
use Rattle.book_questions_json.specs.Objects.{name_data}
use Rattle.book_questions_json.proofs.arrays.name_values.Given as goal

-- the names so far
abbrev pub invariant-loop-name : goal.invariant-loop-name
invariant-loop-name l = map view l.values.items ≡ map name_data (take l.name-index l.names)
