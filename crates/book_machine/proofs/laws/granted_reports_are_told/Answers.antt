use Rattle.book_machine.proofs.CopiesOfRuns.{granted_reports_are_told}
use Rattle.book_machine.proofs.laws.granted_reports_are_told.Goals as goal

pub returns : goal.returns
returns c = granted_reports_are_told
