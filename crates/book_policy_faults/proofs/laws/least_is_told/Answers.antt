use Rattle.book_policy_faults.proofs.Told.{least_told}
use Rattle.book_policy_faults.proofs.laws.least_is_told.Goals as goal

pub returns : goal.returns
returns c = least_told
