use Rattle.std.proofs.Common.{refl}
use Rattle.book_desk_administering.proofs.Readings.{beside_log, read_reads}
use Rattle.book_desk_administering.proofs.logs.LoggedAdministered.counts.Goals as goal

pub returns-clause-reads : goal.returns-clause-reads
returns-clause-reads g c = beside_log _ _ _ _ refl (read_reads _ _ _ _ c.counts_of.ensures)
