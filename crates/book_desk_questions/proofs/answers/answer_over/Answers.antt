use Rattle.book_desk_questions.proofs.answers.answer_over.Goals as goal

pub returns-clause-ends : goal.returns-clause-ends
returns-clause-ends g c = rw c.release.ensures (rw c.new-machine.ensures at c.answer-status.ensures.ends)
