use Rattle.book_policy.proofs.Agreed.{checks_agree}
use Rattle.book_policy.proofs.agreement.checks_agree.Goals as goal

pub returns : goal.returns
returns c = checks_agree
