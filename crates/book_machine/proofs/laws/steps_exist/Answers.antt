use Rattle.book_machine.proofs.FoundSteps.{steps_exist}
use Rattle.book_machine.proofs.laws.steps_exist.Goals as goal

pub returns : goal.returns
returns c = steps_exist
