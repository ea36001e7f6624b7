use Rattle.book_questions_differs.proofs.AlikePairs.{pairs_decide}
use Rattle.book_questions_differs.proofs.Classes.{pairs_have_one_class}
use Rattle.book_questions_differs.proofs.laws.classes_are_of_equal_pairs.Goals as goal

pub returns : goal.returns
returns c = record { tested = λ pair other. pairs_decide pair other; one = pairs_have_one_class }
