use Rattle.book_desk_serving.proofs.Common.{◌∙◌, arith, sym, inl, inr, Keeps-refl}
use Rattle.book_desk_app.proofs.Ending.{not_done}
use Rattle.book_desk_serving.proofs.running.pipe_after.Goals as goal

pub returns-in-Ok-clause-ends : goal.returns-in-Ok-clause-ends
returns-in-Ok-clause-ends g c = inr (c.adopt_given.new.machine.keeper, rw c.new-machine.ensures at c.in-Ok.ensures.adopted, rw c.release.ensures at c.pipe_over.ensures.ends)

pub returns-in-Ok-clause-silent : goal.returns-in-Ok-clause-silent
returns-in-Ok-clause-silent g c = λ done. c.pipe_over.ensures.silent (λ stopped. omega (arith, done, stopped))

pub returns-in-Err-clause-ends : goal.returns-in-Err-clause-ends
returns-in-Err-clause-ends g c = inl (c.in-Err.failure, c.tell_line.ensures.status, rw c.release-in-Err.ensures (rw c.new-machine.ensures at c.in-Err.ensures.refused), Keeps-refl _, Keeps-refl _, c.tell_line.ensures.told)

pub returns-in-Err-clause-silent : goal.returns-in-Err-clause-silent
returns-in-Err-clause-silent g c = λ done. absurd (not_done c.in-Err.failure (sym c.tell_line.ensures.status ∙ done))
