use Rattle.book_desk_questions.proofs.Common.{◌∙◌, inl, inr, refl, sym}
use Rattle.book_desk_questions.proofs.Ended.{unanswered_not_done}
use Rattle.book_desk_questions.proofs.answers.answer.Goals as goal

pub returns-in-Ok-clause-ends : goal.returns-in-Ok-clause-ends
returns-in-Ok-clause-ends g c = inl (refl, c.in-Ok.ensures.told)

pub returns-in-Err-clause-ends : goal.returns-in-Err-clause-ends
returns-in-Err-clause-ends g c = inr (c.in-Err.failure, c.tell_unanswered.ensures.status, c.in-Err.ensures.failed, c.tell_unanswered.ensures.told)

pub returns-in-Err-clause-silent : goal.returns-in-Err-clause-silent
returns-in-Err-clause-silent g c = λ done. absurd (unanswered_not_done c.in-Err.failure (sym c.tell_unanswered.ensures.status ∙ done))
