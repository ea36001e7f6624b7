use Rattle.book_desk_questions.proofs.Common.{Some, ap, inl, inr, Keeps-refl}
use Rattle.book_desk_questions.proofs.differing.run_differs.Goals as goal

pub returns-in-Ok : goal.returns-in-Ok
returns-in-Ok g c = inr (c.in-Ok.policy, c.in-Ok.ensures.policy, c.differs_in.ensures)

pub returns-in-Err : goal.returns-in-Err
returns-in-Err g c =
    inl (
      c.in-Err.failure,
      c.in-Err.ensures.refused,
      c.tell_line.ensures.status,
      ap Some c.into_connection.ensures.same,
      Keeps-refl _,
      record { front = c.tell_line.ensures.told.front; line = c.tell_line.ensures.told.line },
    )
