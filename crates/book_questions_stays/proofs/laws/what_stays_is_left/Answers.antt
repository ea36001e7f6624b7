use Rattle.book_questions_stays.proofs.Left.{left}
use Rattle.book_questions_stays.proofs.laws.what_stays_is_left.Goals as goal

pub returns : goal.returns
returns c = left
