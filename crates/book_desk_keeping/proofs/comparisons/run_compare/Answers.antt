use Rattle.book_desk_keeping.proofs.Common.{◌∙◌, Some, ap, inl, inr, refl, sym}
use Rattle.book_desk_app.proofs.Ending.{not_done}
use Rattle.book_desk_app.specs.declared.failures.Failure.TheVariants.{Store}
use Rattle.book_desk_keeping.proofs.comparisons.run_compare.Goals as goal

pub returns-in-Ok-clause-runs : goal.returns-in-Ok-clause-runs
returns-in-Ok-clause-runs g c =
    let over = c.compare_in-status in
    inr (c.in-Ok.tables, over.new.first, c.in-Ok.ensures.opened, over.ensures.rests, over.ensures.compares, ap Some c.release.ensures)

pub returns-in-Err-clause-runs : goal.returns-in-Err-clause-runs
returns-in-Err-clause-runs g c =
    inl (
      c.in-Err.failure,
      (c.in-Err.left, c.in-Err.ensures.refused),
      c.tell_line.ensures.status,
      refl,
      record { front = c.tell_line.ensures.told.front; line = c.tell_line.ensures.told.line },
      ap Some c.into_connection.ensures.same,
    )

pub returns-in-Err-clause-silent : goal.returns-in-Err-clause-silent
returns-in-Err-clause-silent g c = λ done. absurd (not_done (Store c.in-Err.failure) (sym c.tell_line.ensures.status ∙ done))
