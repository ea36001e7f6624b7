use Rattle.std.proofs.Common.{◌∙◌}
use Rattle.book_questions_plans.proofs.InTurn.{adopted_it, found_full}
use Rattle.book_questions_plans.proofs.planning.adopted_copy.Goals as goal

pub returns-in-Ok : goal.returns-in-Ok
returns-in-Ok g c =
    rw c.release.ensures (adopted_it _ _ _ c.in_ok-office.office c.new-machine.result.keeper c.adopt.new.self.keeper
    (c.new-machine.ensures ∙ c.from_office.ensures) c.in_ok-office.ensures _ c.in-Ok.ensures)

pub returns-in-Err-Full : goal.returns-in-Err-Full
returns-in-Err-Full g c =
    found_full _ _ _ c.in_ok-office.office c.new-machine.result.keeper c.adopt.new.self.keeper
    (c.new-machine.ensures ∙ c.from_office.ensures) c.in_ok-office.ensures _ (rw c.in-Err-Full.field-0-is at c.in-Err-Full.ensures)
