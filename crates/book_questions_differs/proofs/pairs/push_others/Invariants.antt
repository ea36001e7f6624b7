use Rattle.book_questions_differs.proofs.Common.{◌≡◌, ◌++◌, map}
use Rattle.book_questions_differs.specs.Pairs.{only_after}
use Rattle.book_questions_differs.proofs.pairs.push_others.Given as goal

-- the cards so far and those to come are all
abbrev pub invariant-loop-name : goal.invariant-loop-name
invariant-loop-name l = record {
  next : (goal.iterator-loop-name).can_next l.name-iterator;
  finite : (goal.iterator-loop-name).is_finite l.name-iterator;
  parts : l.pairs.items ++ map only_after l.name-iterator ≡ l.fn.pairs.items ++ map only_after l.initial.name-iterator;
}
