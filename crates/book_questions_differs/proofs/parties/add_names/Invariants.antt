use Rattle.book_questions_differs.proofs.Common.{◌≡◌, drop}
use Rattle.book_questions_differs.specs.Parties.{with_names}
use Rattle.book_questions_differs.proofs.parties.add_names.Given as goal

-- the persons so far with those to come are all
abbrev pub invariant-loop-person : goal.invariant-loop-person
invariant-loop-person l = with_names l.names (drop l.person-index l.persons) ≡ with_names l.fn.names l.persons
