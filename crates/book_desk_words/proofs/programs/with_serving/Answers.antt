use Rattle.book_desk_words.proofs.programs.with_serving.Goals as goal

pub returns : goal.returns
returns c = λ app is. c.added.ensures _ _ (c.added-program-4.ensures _ _ (c.added-program-3.ensures _ _ (c.added-program-2.ensures _ _ (c.added-program.ensures _ _ is c.migrate.ensures) c.why.ensures) c.pipe.ensures) c.serve.ensures) c.check.ensures
