use Rattle.book_office_adopting.proofs.Common.{◌≡◌, moved}
use Rattle.book_office_adopting.proofs.adopting.move_contents.Given as goal

-- the books so far with the contents to come are those with all
abbrev pub invariant-loop-name : goal.invariant-loop-name
invariant-loop-name l = record {
  next : (goal.iterator-loop-name).can_next l.name-iterator;
  finite : (goal.iterator-loop-name).is_finite l.name-iterator;
  parts : moved l.books l.name-iterator ≡ moved l.initial.books l.initial.name-iterator;
}
