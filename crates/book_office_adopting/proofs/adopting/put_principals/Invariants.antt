use Rattle.book_office_adopting.proofs.Common.{◌≡◌, old_properties, all_inserted}
use Rattle.book_office_adopting.proofs.adopting.put_principals.Given as goal

-- the places so far with those to come are those of all
abbrev pub invariant-loop-name : goal.invariant-loop-name
invariant-loop-name l = record {
  next : (goal.iterator-loop-name).can_next l.name-iterator;
  finite : (goal.iterator-loop-name).is_finite l.name-iterator;
  parts : all_inserted (old_properties l.policy l.home l.labels) l.principals l.name-iterator ≡ all_inserted (old_properties l.policy l.home l.labels) l.initial.principals l.initial.name-iterator;
}
