use Rattle.book_desk_questions.proofs.Common.{inl, inr, Keeps-refl}
use Rattle.book_wire_serving.proofs.Servings.{still}
use Rattle.book_desk_questions.proofs.differing.differs_by.Goals as goal

pub returns-in-Ok : goal.returns-in-Ok
returns-in-Ok g c = inr (c.in-Ok.policy, c.in-Ok.ensures.policy, c.differs_of.ensures)

pub returns-in-Err : goal.returns-in-Err
returns-in-Err g c =
    inl (
      c.in-Err.failure,
      c.in-Err.ensures.refused,
      c.tell_line.ensures.status,
      still (g.K.Keeper.standing c.args.keeper.now),
      Keeps-refl _,
      record { front = c.tell_line.ensures.told.front; line = c.tell_line.ensures.told.line },
    )
