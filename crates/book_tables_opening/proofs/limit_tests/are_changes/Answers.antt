use Rattle.book_tables_opening.proofs.Common.{IfOk, IsTrue, ◌↔◌, subst, ◌∙◌}
use Rattle.book_tables_opening.specs.Opening.{AreChangeKeys}
use Rattle.book_tables_opening.proofs.limit_tests.are_changes.Goals as goal

pub returns : goal.returns
returns c = subst (λ found. IfOk c.are_change_keys.result (λ are. IsTrue are ↔ AreChangeKeys c.args.directory.now found)) (c.deref.ensures.value ∙ c.in_ok-found.ensures) c.are_change_keys.ensures
