use Rattle.book_questions_json.proofs.Common.{◌≡◌, map, take}
use Rattle.serde_json.specs.View.{view}
use Rattle.book_questions_json.specs.Facts.{leaf_facts}
use Rattle.book_questions_json.specs.Objects.{leaf_data}
use Rattle.book_questions_json.proofs.leaves.leaves_value.Given as goal

-- the leaves so far
abbrev pub invariant-loop-ruling : goal.invariant-loop-ruling
invariant-loop-ruling l = map view l.values.items ≡ map leaf_data (leaf_facts l.force l.chains l.set (take l.ruling-index l.rulings))
