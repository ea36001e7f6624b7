use Rattle.book_questions.proofs.Common.{◌≡◌, ◌∷◌, map, take}
use Rattle.book_lists.specs.declared.circles.Caller.TheVariants.{Nobody}
use Rattle.book_questions.specs.Who.{known_caller}
use Rattle.book_questions.proofs.holders.callers_in.Given as goal

-- nobody, and the persons so far
abbrev pub invariant-loop-person : goal.invariant-loop-person
invariant-loop-person l = l.callers.items ≡ Nobody ∷ map known_caller (take l.person-index l.persons)
