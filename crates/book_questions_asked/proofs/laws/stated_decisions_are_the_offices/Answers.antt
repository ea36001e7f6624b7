use Rattle.book_questions_asked.proofs.StatedDecisions.{stated_decisions}
use Rattle.book_questions_asked.proofs.laws.stated_decisions_are_the_offices.Goals as goal

pub returns : goal.returns
returns c = stated_decisions
