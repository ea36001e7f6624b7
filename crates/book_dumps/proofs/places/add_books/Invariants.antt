use Rattle.book_dumps.proofs.Common.{◌≡◌, drop}
use Rattle.book_dumps.specs.Dumps.{with_books}
use Rattle.book_dumps.proofs.places.add_books.Given as goal

-- the books so far with those to come are all
abbrev pub invariant-loop-name : goal.invariant-loop-name
invariant-loop-name l = with_books l.places (drop l.name-index l.names) ≡ with_books l.fn.places l.names
