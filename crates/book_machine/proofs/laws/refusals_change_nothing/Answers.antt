use Rattle.book_machine.proofs.AvailableSteps.{steps_are_available}
use Rattle.book_machine.proofs.StepLaws.{refusals_change_nothing, telling_replies_change_nothing}
use Rattle.book_machine.proofs.laws.refusals_change_nothing.Goals as goal

pub returns : goal.returns
returns c = record { unchanged = refusals_change_nothing; telling = telling_replies_change_nothing; available = steps_are_available }
