use Rattle.book_desk_words.proofs.programs.with_keeping.Goals as goal

pub returns : goal.returns
returns c = λ app is. c.added.ensures _ _ (c.added-program-4.ensures _ _ (c.added-program-3.ensures _ _ (c.added-program-2.ensures _ _ (c.added-program.ensures _ _ is c.load.ensures) c.compact.ensures) c.backup.ensures) c.restore.ensures) c.doctor.ensures
