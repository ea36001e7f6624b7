use Rattle.book_questions_differs.proofs.EachTold.{each_is_told}
use Rattle.book_questions_differs.proofs.Everybody.{everybody_is_asked}
use Rattle.book_questions_differs.proofs.laws.everything_is_told.Goals as goal

pub returns : goal.returns
returns c = record { callers = everybody_is_asked; resources = each_is_told }
