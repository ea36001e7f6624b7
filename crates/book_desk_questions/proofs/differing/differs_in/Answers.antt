use Rattle.book_desk_questions.proofs.Common.{ap, inl, inr, refl, Some, Keeps-refl}
use Rattle.book_desk_questions.proofs.differing.differs_in.Goals as goal

pub returns-in-Ok : goal.returns-in-Ok
returns-in-Ok g c = inr (c.in-Ok.tables, c.differs_over-status.result.1, c.in-Ok.ensures.opened, c.differs_over-status.ensures, ap Some c.release.ensures)

pub returns-in-Err : goal.returns-in-Err
returns-in-Err g c =
    inl (
      c.in-Err.failure,
      (c.in-Err.left, c.in-Err.ensures.refused),
      c.tell_line.ensures.status,
      refl,
      Keeps-refl _,
      record { front = c.tell_line.ensures.told.front; line = c.tell_line.ensures.told.line },
    )
