use Rattle.book_questions_differs.proofs.Holding.{classes_tell, lines_tell}
use Rattle.book_questions_differs.proofs.laws.lines_tell_what_differs.Goals as goal

pub returns : goal.returns
returns c = record { resources = lines_tell; cards = classes_tell }
