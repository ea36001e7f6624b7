use Rattle.book_policy_faults.proofs.Told.{told_first}
use Rattle.book_policy_faults.proofs.laws.told_are_first.Goals as goal

pub returns : goal.returns
returns c = told_first
