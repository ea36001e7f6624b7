use Rattle.book_desk_serving.proofs.Common.{◌∙◌, ap, inl, inr, refl, sym, Some, Keeps-refl}
use Rattle.book_desk_app.proofs.Ending.{not_done}
use Rattle.book_desk_app.specs.declared.failures.Failure.TheVariants.{Store}
use Rattle.book_desk_serving.proofs.running.perform_in.Goals as goal

pub returns-in-Ok-clause-runs : goal.returns-in-Ok-clause-runs
returns-in-Ok-clause-runs g c = inr (_, _, c.in-Ok.ensures.opened, c.perform_over-status.ensures.ends, ap Some c.release.ensures)

pub returns-in-Err-clause-runs : goal.returns-in-Err-clause-runs
returns-in-Err-clause-runs g c = inl (c.in-Err.failure, (c.in-Err.left, c.in-Err.ensures.refused), c.tell_line.ensures.status, refl, Keeps-refl _, Keeps-refl _, c.tell_line.ensures.told)

pub returns-in-Err-clause-silent : goal.returns-in-Err-clause-silent
returns-in-Err-clause-silent g c = λ done. absurd (not_done (Store c.in-Err.failure) (sym c.tell_line.ensures.status ∙ done))
