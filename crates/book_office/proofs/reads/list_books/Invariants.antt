use Rattle.book_office.proofs.Common.{◌≡◌, ◌++◌}
use Rattle.book_office.specs.Resources.{listed_books}
use Rattle.book_office.proofs.reads.list_books.Given as goal

-- the children so far and those to come are those of the map
abbrev pub invariant-loop-name : goal.invariant-loop-name
invariant-loop-name l = record {
  next : (goal.iterator-loop-name).can_next l.name-iterator;
  finite : (goal.iterator-loop-name).is_finite l.name-iterator;
  parts : l.children.items ++ listed_books l.name-iterator ≡ listed_books l.initial.name-iterator;
}
