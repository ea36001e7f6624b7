use Rattle.book_lists.proofs.Common.{◌≡◌}
use Rattle.book_lists.specs.PrincipalSets.{with_paths}
use Rattle.book_lists.proofs.principal_sets.PrincipalSet.add_all.Given as goal

-- those so far with those to come are those before with all of the other set
abbrev pub invariant-loop-principal : goal.invariant-loop-principal
invariant-loop-principal l = record {
  next : (goal.iterator-loop-principal).can_next l.principal-iterator;
  finite : (goal.iterator-loop-principal).is_finite l.principal-iterator;
  parts : with_paths l.principal-iterator l.self ≡ with_paths l.initial.principal-iterator l.initial.self;
}
