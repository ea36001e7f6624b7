use Rattle.book_lists_explain.proofs.OneExplanation.{one_answer_of}
use Rattle.book_lists_explain.proofs.laws.answers_are_one.Goals as goal

pub returns : goal.returns
returns c = record { one_answer = one_answer_of }
