use Rattle.book_desk_keeping.proofs.Common.{◌∙◌, Some, ap, inl, inr, refl, sym}
use Rattle.book_desk_app.proofs.Ending.{not_done}
use Rattle.book_desk_app.specs.declared.failures.Failure.TheVariants.{Store}
use Rattle.book_desk_keeping.proofs.comparisons.compare_in.Goals as goal

pub returns-in-Ok-clause-compares : goal.returns-in-Ok-clause-compares
returns-in-Ok-clause-compares g c =
    let over = c.compare-status in
    inr (c.in-Ok.tables, over.new.other, c.in-Ok.ensures.opened, over.ensures.other, over.ensures.ends, ap Some c.release.ensures)

pub returns-in-Err-clause-compares : goal.returns-in-Err-clause-compares
returns-in-Err-clause-compares g c =
    inl (
      c.in-Err.failure,
      (c.in-Err.left, c.in-Err.ensures.refused),
      c.tell_line.ensures.status,
      refl,
      record { front = c.tell_line.ensures.told.front; line = c.tell_line.ensures.told.line },
      tt,
    )

pub returns-in-Err-clause-silent : goal.returns-in-Err-clause-silent
returns-in-Err-clause-silent g c = λ done. absurd (not_done (Store c.in-Err.failure) (sym c.tell_line.ensures.status ∙ done))
