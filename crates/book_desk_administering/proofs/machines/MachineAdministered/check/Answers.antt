use Rattle.book_desk_administering.proofs.Readings.{check_reads}
use Rattle.book_desk_administering.proofs.machines.MachineAdministered.check.Goals as goal

pub returns-clause-reads : goal.returns-clause-reads
returns-clause-reads g c = check_reads c.args.bytes.items c.args.strict _ _ _ _ _ _ _ _ c.check_copy.ensures
