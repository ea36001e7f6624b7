use Rattle.std.proofs.Common.{◌≡◌, ◌++◌, map}
use Rattle.book_dumps_restoring.proofs.standing.Standing.into_values.Given as goal

-- the values so far and those to come are all values
abbrev pub invariant-loop-value : goal.invariant-loop-value
invariant-loop-value g l = record {
  next : (goal.iterator-loop-value g).can_next l.value-iterator;
  finite : (goal.iterator-loop-value g).is_finite l.value-iterator;
  parts : l.values.items ++ map (λ e. e.1) l.value-iterator ≡ map (λ e. e.1) l.initial.value-iterator;
}
