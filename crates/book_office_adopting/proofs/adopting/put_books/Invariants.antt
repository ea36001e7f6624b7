use Rattle.book_office_adopting.proofs.Common.{◌≡◌, bare_book, all_inserted}
use Rattle.book_office_adopting.proofs.adopting.put_books.Given as goal

-- the books so far with those to come are those of all
abbrev pub invariant-loop-name : goal.invariant-loop-name
invariant-loop-name l = record {
  next : (goal.iterator-loop-name).can_next l.name-iterator;
  finite : (goal.iterator-loop-name).is_finite l.name-iterator;
  parts : all_inserted (bare_book l.policy) l.books l.name-iterator ≡ all_inserted (bare_book l.policy) l.initial.books l.initial.name-iterator;
}
