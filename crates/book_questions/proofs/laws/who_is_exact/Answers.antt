use Rattle.book_questions.proofs.WhoIs.{who_is_exact}
use Rattle.book_questions.proofs.laws.who_is_exact.Goals as goal

pub returns : goal.returns
returns c = who_is_exact
