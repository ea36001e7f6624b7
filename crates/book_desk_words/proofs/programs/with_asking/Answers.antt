use Rattle.book_desk_words.proofs.programs.with_asking.Goals as goal

pub returns : goal.returns
returns c = λ app is. c.added.ensures _ _ (c.added-program-6.ensures _ _ (c.added-program-5.ensures _ _ (c.added-program-4.ensures _ _ (c.added-program-3.ensures _ _ (c.added-program-2.ensures _ _ (c.added-program.ensures _ _ is c.who.ensures) c.rights.ensures) c.dump.ensures) c.show.ensures) c.ask.ensures) c.differs.ensures) c.denials.ensures
