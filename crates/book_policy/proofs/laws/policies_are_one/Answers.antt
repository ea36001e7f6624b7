use Rattle.book_policy.proofs.Whole.{one_policy}
use Rattle.book_policy.proofs.laws.policies_are_one.Goals as goal

pub returns : goal.returns
returns c = record { one_policy = one_policy }
