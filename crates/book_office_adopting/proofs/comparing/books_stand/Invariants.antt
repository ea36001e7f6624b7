use Rattle.book_office_adopting.proofs.Common.{◌≡◌, Some, option_map, get, AllByRecursion, Book}
use Rattle.book_office_adopting.proofs.comparing.books_stand.Given as goal

-- the places to come stand in the other exactly where all do
abbrev pub invariant-loop-name : goal.invariant-loop-name
invariant-loop-name l = record {
  next : (goal.iterator-loop-name).can_next l.name-iterator;
  finite : (goal.iterator-loop-name).is_finite l.name-iterator;
  there : AllByRecursion (λ e. option_map (λ (book : Book). book.properties) (get l.other e.0) ≡ Some e.1.properties) l.name-iterator
      → AllByRecursion (λ e. option_map (λ (book : Book). book.properties) (get l.other e.0) ≡ Some e.1.properties) l.initial.name-iterator;
  all : AllByRecursion (λ e. option_map (λ (book : Book). book.properties) (get l.other e.0) ≡ Some e.1.properties) l.initial.name-iterator
      → AllByRecursion (λ e. option_map (λ (book : Book). book.properties) (get l.other e.0) ≡ Some e.1.properties) l.name-iterator;
}
