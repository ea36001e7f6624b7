use Rattle.book_desk_questions.proofs.Common.{◌∙◌, inl, inr, sym, Keeps-refl}
use Rattle.book_desk_questions.proofs.Ended.{unanswered_not_done}
use Rattle.book_wire_serving.proofs.Servings.{still}
use Rattle.book_desk_questions.proofs.answers.answer_words.Goals as goal

pub returns-in-Ok-clause-answers : goal.returns-in-Ok-clause-answers
returns-in-Ok-clause-answers g c = inr (c.in-Ok.asked, c.in-Ok.ensures.asks, rw c.asking_of-asking.ensures at c.answer.ensures.ends)

pub returns-in-Err-clause-answers : goal.returns-in-Err-clause-answers
returns-in-Err-clause-answers g c =
    inl (
      c.in-Err.failure,
      c.in-Err.ensures.nothing,
      c.tell_unanswered.ensures.status,
      still (g.K.Keeper.standing c.args.machine.now.keeper),
      Keeps-refl _,
      rw c.asking_of-asking.ensures at c.tell_unanswered.ensures.told,
    )

pub returns-in-Err-clause-silent : goal.returns-in-Err-clause-silent
returns-in-Err-clause-silent g c = λ done. absurd (unanswered_not_done c.in-Err.failure (sym c.tell_unanswered.ensures.status ∙ done))
