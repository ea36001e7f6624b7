use Rattle.book_machine.proofs.OfficesOfRuns.{runs_are_synced}
use Rattle.book_machine.proofs.laws.runs_are_synced.Goals as goal

pub returns : goal.returns
returns c = runs_are_synced
