use Rattle.book_lists.proofs.Common.{◌≡◌, ◌++◌}
use Rattle.book_lists.specs.GroupEntries.{memberships_in}
use Rattle.book_lists.proofs.principal_sets.PrincipalSet.append_memberships.Given as goal

-- the memberships so far and those to come are those before and those of all groups
abbrev pub invariant-loop-group : goal.invariant-loop-group
invariant-loop-group l = record {
  next : (goal.iterator-loop-group).can_next l.group-iterator;
  finite : (goal.iterator-loop-group).is_finite l.group-iterator;
  parts : l.list.items ++ memberships_in l.member l.group-iterator ≡ l.initial.list.items ++ memberships_in l.member l.initial.group-iterator;
}
