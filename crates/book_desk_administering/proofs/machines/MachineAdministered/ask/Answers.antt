use Rattle.book_desk_app.specs.Telling.{TellsLine}
use Rattle.book_desk_administering.proofs.Readings.{words_read}
use Rattle.book_desk_administering.proofs.machines.MachineAdministered.ask.Goals as goal

pub returns-clause-reads : goal.returns-clause-reads
returns-clause-reads g c =
    words_read (TellsLine (g.E.Lines.is_whole c.answer_words.new.errors) (g.E.Write.contents c.args.errors.now) (g.E.Write.contents c.answer_words.new.errors)) _ _ _ _ _ _ c.answer_words.ensures.answers
