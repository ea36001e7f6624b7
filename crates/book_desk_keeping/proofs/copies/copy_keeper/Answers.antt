use Rattle.book_desk_keeping.proofs.Common.{◌∙◌, inl, inr, refl, sym}
use Rattle.book_desk_keeping.proofs.Leaving.{fault_not_done}
use Rattle.book_desk_keeping.proofs.copies.copy_keeper.Goals as goal

pub returns-in-Ok-clause-makes : goal.returns-in-Ok-clause-makes
returns-in-Ok-clause-makes g c = inl (refl, (c.in-Ok.ensures.empty, c.in-Ok.made, refl, c.in-Ok.ensures.made))

pub returns-in-Err-clause-makes : goal.returns-in-Err-clause-makes
returns-in-Err-clause-makes g c =
    inr (
      c.in-Err.fault,
      c.tell_fault.ensures.status,
      c.in-Err.ensures.left,
      record { front = c.tell_fault.ensures.told.front; line = c.tell_fault.ensures.told.line },
    )

pub returns-in-Err-clause-silent : goal.returns-in-Err-clause-silent
returns-in-Err-clause-silent g c = λ done. absurd (fault_not_done c.in-Err.fault (sym c.tell_fault.ensures.status ∙ done))
