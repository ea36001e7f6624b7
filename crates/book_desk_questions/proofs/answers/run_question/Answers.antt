use Rattle.book_desk_questions.proofs.Common.{◌∙◌, Some, ap, inl, inr, sym, Keeps-refl}
use Rattle.book_desk_questions.proofs.Ended.{unanswered_not_done}
use Rattle.book_desk_questions.proofs.answers.run_question.Goals as goal

pub returns-in-Ok-clause-runs : goal.returns-in-Ok-clause-runs
returns-in-Ok-clause-runs g c = inr (c.in-Ok.asked, c.in-Ok.ensures.asks, rw c.asking_of-asking.ensures at c.answer_in.ensures.runs)

pub returns-in-Err-clause-runs : goal.returns-in-Err-clause-runs
returns-in-Err-clause-runs g c = inl (c.in-Err.failure, c.in-Err.ensures.nothing, c.tell_unanswered.ensures.status, ap Some c.into_connection.ensures.same, Keeps-refl _, rw c.asking_of-asking.ensures at c.tell_unanswered.ensures.told)

pub returns-in-Err-clause-silent : goal.returns-in-Err-clause-silent
returns-in-Err-clause-silent g c = λ done. absurd (unanswered_not_done c.in-Err.failure (sym c.tell_unanswered.ensures.status ∙ done))
