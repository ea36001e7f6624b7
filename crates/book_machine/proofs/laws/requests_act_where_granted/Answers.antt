use Rattle.book_machine.proofs.StepLaws.{acts_where_granted, denials_are_told}
use Rattle.book_machine.proofs.laws.requests_act_where_granted.Goals as goal

pub returns : goal.returns
returns c = record { granted = acts_where_granted; denied = denials_are_told }
