use Rattle.book_lists_explain.proofs.OneExplanation.{answer_or_fault}
use Rattle.book_lists_explain.proofs.laws.answers_exclude_faults.Goals as goal

pub returns : goal.returns
returns c = record { no_fault = answer_or_fault }
