use Rattle.book_questions_asked.proofs.Explained.{explained}
use Rattle.book_questions_asked.proofs.laws.explain_answers_ask.Goals as goal

pub returns : goal.returns
returns c = explained
