use Rattle.book_questions_differs.proofs.Common.{◌≡◌, ◌++◌, ◌∷◌, List, ℕ, Some, None, map}
use Rattle.book_questions_differs.proofs.parties.nobody_and.Given as goal

-- the names so far and those to come are all
abbrev pub invariant-loop-name : goal.invariant-loop-name
invariant-loop-name l = record {
  next : (goal.iterator-loop-name).can_next l.name-iterator;
  finite : (goal.iterator-loop-name).is_finite l.name-iterator;
  parts : l.all.items ++ map Some (map (λ (e : List ℕ × Unit {0}). e.0) l.name-iterator) ≡ None ∷ map Some (map (λ (e : List ℕ × Unit {0}). e.0) l.initial.name-iterator);
}
