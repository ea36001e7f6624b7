use Rattle.book_policy.proofs.Whole.{policy_no_fault}
use Rattle.book_policy.proofs.laws.policies_exclude_faults.Goals as goal

pub returns : goal.returns
returns c = record { no_fault = policy_no_fault }
