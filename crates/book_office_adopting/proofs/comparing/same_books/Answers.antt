use Rattle.book_office_adopting.proofs.Common.{sym, ◌∙◌, false≢true}
use Rattle.book_office_adopting.proofs.SameMaps.{same_books_are, same_books_stand}
use Rattle.book_office_adopting.proofs.comparing.same_books.Goals as goal

pub returns-then-books_stand : goal.returns-then-books_stand
returns-then-books_stand c = (
  λ e. same_books_are c.args.books.now c.args.other.now (c.books_stand.ensures.0 c.if-books_stand.true) (c.books_stand-then-books_stand.ensures.0 e),
  λ same. c.books_stand-then-books_stand.ensures.1 (same_books_stand c.args.other.now c.args.books.now (sym same)),
)

pub returns-else-books_stand : goal.returns-else-books_stand
returns-else-books_stand c = (
  λ e. absurd (false≢true (sym c.if-books_stand.false ∙ e)),
  λ same. c.books_stand.ensures.1 (same_books_stand c.args.books.now c.args.other.now same),
)
