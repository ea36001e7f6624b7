use Rattle.std.proofs.Common.{◌≡◌, ◌++◌, map}
use Rattle.book_policy_idle.proofs.askers.names_of.Given as goal

-- the names so far and those to come are those of the map
abbrev pub invariant-loop-name : goal.invariant-loop-name
invariant-loop-name l = record {
  next : (goal.iterator-loop-name).can_next l.name-iterator;
  finite : (goal.iterator-loop-name).is_finite l.name-iterator;
  parts : l.names.items ++ map (λ e. e.0) l.name-iterator ≡ map (λ e. e.0) l.initial.name-iterator;
}
