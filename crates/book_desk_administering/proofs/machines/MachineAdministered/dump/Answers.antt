use Rattle.book_desk_app.specs.Telling.{TellsLine}
use Rattle.book_desk_administering.proofs.Readings.{dump_reads}
use Rattle.book_desk_administering.proofs.machines.MachineAdministered.dump.Goals as goal

pub returns-clause-reads : goal.returns-clause-reads
returns-clause-reads g c =
    dump_reads (TellsLine (g.E.Lines.is_whole c.dump_of.new.errors) (g.E.Write.contents c.args.errors.now) (g.E.Write.contents c.dump_of.new.errors)) _ _ _ _ _ c.dump_of.ensures.ends
