use Rattle.book_desk_questions.proofs.Common.{inr}
use Rattle.book_desk_questions.proofs.differing.differs_of.Goals as goal

pub returns-in-Err : goal.returns-in-Err
returns-in-Err g c =
    let told = rw c.unplanned_failure.ensures at c.tell_line.ensures.told in
    inr (
      c.in-Err.unplanned,
      c.in-Err.ensures,
      rw c.unplanned_failure.ensures at c.tell_line.ensures.status,
      record { front = told.front; line = told.line },
    )
