use Rattle.book_desk_doctor.proofs.Common.{◌∙◌, inl, inr, refl, sym}
use Rattle.book_desk_app.proofs.Ending.{not_done}
use Rattle.book_desk_doctor.proofs.doctoring.count.Goals as goal

pub returns-in-Ok-clause-ends : goal.returns-in-Ok-clause-ends
returns-in-Ok-clause-ends g c = inl (refl, c.in-Ok.ensures.written)

pub returns-in-Err-clause-ends : goal.returns-in-Err-clause-ends
returns-in-Err-clause-ends g c =
    inr (
      c.in-Err.failure,
      c.tell_line.ensures.status ∙ c.in-Err.ensures.failed,
      record { front = c.tell_line.ensures.told.front; line = c.tell_line.ensures.told.line },
    )

pub returns-in-Err-clause-silent : goal.returns-in-Err-clause-silent
returns-in-Err-clause-silent g c = λ done. absurd (not_done c.in-Err.failure (sym c.tell_line.ensures.status ∙ done))
