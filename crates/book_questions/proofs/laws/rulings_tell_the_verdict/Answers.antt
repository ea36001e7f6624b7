use Rattle.book_questions.proofs.RuledVerdicts.{rulings_tell}
use Rattle.book_questions.proofs.laws.rulings_tell_the_verdict.Goals as goal

pub returns : goal.returns
returns c = rulings_tell
