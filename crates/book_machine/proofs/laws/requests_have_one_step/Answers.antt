use Rattle.book_machine.proofs.StepLaws.{one_step}
use Rattle.book_machine.proofs.laws.requests_have_one_step.Goals as goal

pub returns : goal.returns
returns c = one_step
