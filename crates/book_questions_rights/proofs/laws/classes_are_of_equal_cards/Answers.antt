use Rattle.book_questions_rights.proofs.Alike.{alike_decides}
use Rattle.book_questions_rights.proofs.Classes.{cards_have_one_class}
use Rattle.book_questions_rights.proofs.laws.classes_are_of_equal_cards.Goals as goal

pub returns : goal.returns
returns c = record { tested = λ card other. alike_decides card other; one = cards_have_one_class }
