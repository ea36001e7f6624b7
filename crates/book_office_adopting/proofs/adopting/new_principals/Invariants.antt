use Rattle.book_office_adopting.proofs.Common.{◌≡◌, new_properties, all_inserted}
use Rattle.book_office_adopting.proofs.adopting.new_principals.Given as goal

-- the places so far with those to come are those of all
abbrev pub invariant-loop-name : goal.invariant-loop-name
invariant-loop-name l = record {
  next : (goal.iterator-loop-name).can_next l.name-iterator;
  finite : (goal.iterator-loop-name).is_finite l.name-iterator;
  parts : all_inserted (new_properties l.policy l.home) l.principals l.name-iterator ≡ all_inserted (new_properties l.policy l.home) l.initial.principals l.initial.name-iterator;
}
