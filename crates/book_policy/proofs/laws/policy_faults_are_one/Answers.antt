use Rattle.book_policy.proofs.Whole.{one_fault}
use Rattle.book_policy.proofs.laws.policy_faults_are_one.Goals as goal

pub returns : goal.returns
returns c = record { one_fault = one_fault }
