use Rattle.book_policy_checks.proofs.Told.{reports_agree}
use Rattle.book_policy_checks.proofs.laws.reports_agree.Goals as goal

pub returns : goal.returns
returns c = reports_agree
