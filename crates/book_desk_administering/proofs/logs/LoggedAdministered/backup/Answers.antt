use Rattle.std.proofs.Common.{refl}
use Rattle.book_desk_administering.proofs.Readings.{beside_log}
use Rattle.book_desk_administering.proofs.logs.LoggedAdministered.backup.Goals as goal

pub returns-clause-reads : goal.returns-clause-reads
returns-clause-reads g c = beside_log _ _ _ _ refl c.backup.ensures.reads
