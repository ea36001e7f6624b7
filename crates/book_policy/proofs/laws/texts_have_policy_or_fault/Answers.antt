use Rattle.book_policy.proofs.RulesDecided.{policy_or_fault}
use Rattle.book_policy.proofs.laws.texts_have_policy_or_fault.Goals as goal

pub returns : goal.returns
returns c = policy_or_fault
