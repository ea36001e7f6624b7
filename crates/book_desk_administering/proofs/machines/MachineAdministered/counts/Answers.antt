use Rattle.book_desk_administering.proofs.Readings.{read_reads}
use Rattle.book_desk_administering.proofs.machines.MachineAdministered.counts.Goals as goal

pub returns-clause-reads : goal.returns-clause-reads
returns-clause-reads g c = read_reads _ _ _ _ c.counts_of.ensures
