use Rattle.book_office.proofs.Common.{◌≡◌, ◌++◌}
use Rattle.book_office.specs.Resources.{listed_principals}
use Rattle.book_office.proofs.reads.list_principals.Given as goal

-- the children so far and those to come are those of the map
abbrev pub invariant-loop-name : goal.invariant-loop-name
invariant-loop-name l = record {
  next : (goal.iterator-loop-name).can_next l.name-iterator;
  finite : (goal.iterator-loop-name).is_finite l.name-iterator;
  parts : l.children.items ++ listed_principals l.kind l.name-iterator ≡ listed_principals l.kind l.initial.name-iterator;
}
