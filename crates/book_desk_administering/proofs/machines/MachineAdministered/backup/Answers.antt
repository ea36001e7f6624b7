use Rattle.book_desk_administering.proofs.Readings.{copy_reads}
use Rattle.book_desk_administering.proofs.machines.MachineAdministered.backup.Goals as goal

pub returns-clause-reads : goal.returns-clause-reads
returns-clause-reads g c = copy_reads _ _ c.copy_keeper.ensures.rests
