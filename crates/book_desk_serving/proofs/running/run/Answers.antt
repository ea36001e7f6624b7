use Rattle.book_desk_serving.proofs.Common.{◌∙◌, inl, inr, sym, Keeps-refl}
use Rattle.book_desk_app.proofs.Ending.{not_done}
use Rattle.book_desk_serving.proofs.running.run.Goals as goal

pub returns-in-Ok-clause-runs : goal.returns-in-Ok-clause-runs
returns-in-Ok-clause-runs g c = inr (c.in-Ok.task, c.in-Ok.ensures.task, c.perform_given.ensures.runs)

pub returns-in-Err-clause-runs : goal.returns-in-Err-clause-runs
returns-in-Err-clause-runs g c = inl (c.in-Err.failure, c.tell_line.ensures.status, c.in-Err.ensures.refused, c.kept_connection.ensures, Keeps-refl _, Keeps-refl _, c.tell_line.ensures.told)

pub returns-in-Err-clause-silent : goal.returns-in-Err-clause-silent
returns-in-Err-clause-silent g c = λ done. absurd (not_done c.in-Err.failure (sym c.tell_line.ensures.status ∙ done))
