use Rattle.book_office_adopting.proofs.Common.{◌≡◌, Some, get, AllByRecursion}
use Rattle.book_office_adopting.proofs.comparing.principals_stand.Given as goal

-- the places to come stand in the other exactly where all do
abbrev pub invariant-loop-name : goal.invariant-loop-name
invariant-loop-name l = record {
  next : (goal.iterator-loop-name).can_next l.name-iterator;
  finite : (goal.iterator-loop-name).is_finite l.name-iterator;
  there : AllByRecursion (λ e. get l.other e.0 ≡ Some e.1) l.name-iterator → AllByRecursion (λ e. get l.other e.0 ≡ Some e.1) l.initial.name-iterator;
  all : AllByRecursion (λ e. get l.other e.0 ≡ Some e.1) l.initial.name-iterator → AllByRecursion (λ e. get l.other e.0 ≡ Some e.1) l.name-iterator;
}
