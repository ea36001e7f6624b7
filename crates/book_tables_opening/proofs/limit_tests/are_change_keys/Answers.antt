use Rattle.book_tables_opening.proofs.limit_tests.are_change_keys.Goals as goal

pub returns : goal.returns
returns c = (λ yes. (c.are_within.ensures.0 c.if-not-are_within.false, c.in_ok-different.ensures.0 yes), λ both. c.in_ok-different.ensures.1 both.1)
