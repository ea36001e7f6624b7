use Rattle.book_desk_app.specs.Telling.{TellsLine}
use Rattle.std.specs.Io.KnownBytes.{Keeps}
use Rattle.book_desk_administering.proofs.Readings.{differs_reads}
use Rattle.book_desk_administering.proofs.machines.MachineAdministered.differs.Goals as goal

pub returns-clause-reads : goal.returns-clause-reads
returns-clause-reads g c =
    differs_reads (TellsLine (g.E.Lines.is_whole c.differs_by.new.errors) (g.E.Write.contents c.args.errors.now) (g.E.Write.contents c.differs_by.new.errors)) (Keeps (g.E.Write.contents c.args.errors.now) (g.E.Write.contents c.differs_by.new.errors)) c.args.bytes.items c.args.strict _ _ _ _ _ c.differs_by.ensures
