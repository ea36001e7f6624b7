use Rattle.book_lists_explain.proofs.FoundExplanations.{explanation_of}
use Rattle.book_lists_explain.proofs.laws.texts_have_answers_or_faults.Goals as goal

pub returns : goal.returns
returns c = record { answer_or_fault = explanation_of }
