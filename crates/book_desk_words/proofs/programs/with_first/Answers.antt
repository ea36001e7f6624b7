use Rattle.book_desk_words.proofs.programs.with_first.Goals as goal

pub returns : goal.returns
returns c = λ app is. c.added.ensures _ _ (c.added-program-4.ensures _ _ (c.added-program-3.ensures _ _ (c.added-program-2.ensures _ _ (c.added-program.ensures _ _ is c.explain.ensures) c.card.ensures) c.init.ensures) c.import.ensures) c.audit.ensures
