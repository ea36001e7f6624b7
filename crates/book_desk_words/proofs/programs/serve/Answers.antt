use Rattle.book_desk_words.proofs.programs.serve.Goals as goal

pub returns : goal.returns
returns c = c.command.ensures
