use Rattle.book_questions.proofs.Common.{◌≡◌, take}
use Rattle.book_questions.proofs.questions.asks_properties.Given as goal

-- the properties so far
abbrev pub invariant-loop-property : goal.invariant-loop-property
invariant-loop-property l = l.asked.items ≡ take l.property-index l.properties
