use Rattle.book_machine.proofs.AnsweringAdoptions.{unavailable_on, answers_asked, answers_full, answers_made, answers_fault}
use Rattle.book_machine.proofs.machine.Machine.adopt.Goals as goal

pub returns-in_err-adopted : goal.returns-in_err-adopted
returns-in_err-adopted g c = unavailable_on _ _ _ c.from_residual.result c.from_residual.ensures.1 (answers_asked _ _ _ _ c.in_err-adopted.ensures)

pub returns-in_default : goal.returns-in_default
returns-in_default g c = answers_full _ _ _ c.in_ok-adopted.field-0 c.in_default.is c.in_ok-adopted.ensures

pub returns-in_err-clone : goal.returns-in_err-clone
returns-in_err-clone g c = unavailable_on _ _ _ c.from_residual-in_err-clone.result c.from_residual-in_err-clone.ensures.1 (answers_asked _ _ _ _ c.in_ok-adopted.ensures)

pub returns-in_err-made : goal.returns-in_err-made
returns-in_err-made g c = unavailable_on _ _ _ c.from_residual-in_err-made.result c.from_residual-in_err-made.ensures.1
    (answers_fault _ _ _ _ c.known.ensures c.in_ok-adopted.field-0 c.in-Some.adopted c.in-Some.is c.in_ok-adopted.ensures _ c.in_ok-clone.ensures.cases c.in_err-made.field-0.0 c.in_err-made.ensures)

pub returns : goal.returns
returns g c = answers_made _ _ _ _ c.known.ensures c.in_ok-adopted.field-0 c.in-Some.adopted c.in-Some.is c.in_ok-adopted.ensures _ c.in_ok-clone.ensures.cases c.in_ok-made.field-0 c.in_ok-made.ensures
