use Rattle.book_questions_asked.proofs.ToldWhy.{told_why}
use Rattle.book_questions_asked.proofs.laws.explain_tells_why.Goals as goal

pub returns : goal.returns
returns c = told_why
