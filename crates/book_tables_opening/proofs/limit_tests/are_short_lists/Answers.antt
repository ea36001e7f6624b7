use Rattle.book_tables_opening.proofs.Common.{IfOk, IsTrue, ◌↔◌, subst, ◌∙◌, MAX_ENTRIES, AreAtMost}
use Rattle.book_tables_opening.proofs.limit_tests.are_short_lists.Goals as goal

pub returns : goal.returns
returns c = subst (λ found. IfOk c.are_at_most.result (λ are. IsTrue are ↔ AreAtMost MAX_ENTRIES found)) (c.deref.ensures.value ∙ c.in_ok-found.ensures) c.are_at_most.ensures
