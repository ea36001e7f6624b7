use Rattle.book_dumps.proofs.LinesInTurn.{lines_both}
use Rattle.book_dumps.proofs.Turns.{failed_given, writes_then}
use Rattle.book_dumps.proofs.dumps.write_after_home.Goals as goal

pub returns-in_err-write_books : goal.returns-in_err-write_books
returns-in_err-write_books g c = failed_given _ _ _ _ _ _ _ c.from_residual.result _ _ _ c.from_residual.ensures.1 c.in_err-write_books.ensures (λ o stands. lines_both o _ _)

pub returns : goal.returns
returns g c = writes_then _ _ _ _ _ _ _ _ _ _ _ _ _ _ c.in_ok-write_books.ensures c.write_after_books.ensures (λ o stands. lines_both o _ _)
