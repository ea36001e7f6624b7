use Rattle.book_tables_opening.proofs.Common.{IfOk, IsTrue, ◌↔◌, subst, ◌∙◌, MAX_CARDS, AreAtMost}
use Rattle.book_tables_opening.proofs.limit_tests.are_small_books.Goals as goal

pub returns : goal.returns
returns c = subst (λ found. IfOk c.are_at_most.result (λ are. IsTrue are ↔ AreAtMost MAX_CARDS found)) (c.deref.ensures.value ∙ c.in_ok-found.ensures) c.are_at_most.ensures
