use Rattle.book_desk_words.proofs.programs.program.Goals as goal

pub returns : goal.returns
returns c = c.with_keeping.ensures _ (c.with_asking-program.ensures _ (c.with_serving-program.ensures _ (c.with_first-program.ensures _ c.top.ensures)))
