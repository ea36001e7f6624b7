use Rattle.book_desk_questions.proofs.Common.{◌∙◌, inl, inr, refl, sym}
use Rattle.book_desk_app.proofs.Ending.{not_done}
use Rattle.book_desk_questions.specs.Dumping.{failure_of}
use Rattle.book_desk_questions.proofs.dumping.dump_of.Goals as goal

pub returns-in-Ok-clause-ends : goal.returns-in-Ok-clause-ends
returns-in-Ok-clause-ends g c = inl (refl, c.in-Ok.ensures)

pub returns-in-Err-clause-ends : goal.returns-in-Err-clause-ends
returns-in-Err-clause-ends g c =
    let told = rw c.failure_of.ensures at c.tell_line.ensures.told in
    inr (
      c.in-Err.fault,
      rw c.failure_of.ensures at c.tell_line.ensures.status,
      c.in-Err.ensures,
      record { front = told.front; line = told.line },
    )

pub returns-in-Err-clause-silent : goal.returns-in-Err-clause-silent
returns-in-Err-clause-silent g c = λ done. absurd (not_done (failure_of c.in-Err.fault) (sym (rw c.failure_of.ensures at c.tell_line.ensures.status) ∙ done))
