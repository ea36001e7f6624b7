use Rattle.book_questions_plans.proofs.InTurn.{planned}
use Rattle.book_questions_plans.proofs.planning.plan.Goals as goal

pub returns : goal.returns
returns g c = planned _ _ _ _ _ _ c.in_ok-after.ensures c.in_ok-told_with.ensures
