use Rattle.book_lists_explain.proofs.OneExplanation.{one_fault_of}
use Rattle.book_lists_explain.proofs.laws.explain_faults_are_one.Goals as goal

pub returns : goal.returns
returns c = record { one_fault = one_fault_of }
