use Rattle.std.proofs.Common.{subst}
use Rattle.std.proofs.lemmas.Result.{IfOk-weaker}
use Rattle.book_lists.specs.Callers.{IsCircle}
use Rattle.book_lists.specs.declared.circles.Caller.{Caller}
use Rattle.book_policy_openings.proofs.InMemory.{kept, told}
use Rattle.book_policy_openings.proofs.in_memory.circle_in.Goals as goal

pub returns-clause-circle : goal.returns-clause-circle
returns-clause-circle c =
    IfOk-weaker c.circle.result _ _
    (λ circle h sound. subst (λ (k : Caller). IsCircle c.args.keeper.now.pairs k circle) c.in_ok-caller.ensures (h sound))
    (told c.args.keeper.now c.circle.new.self c.circle.result _ c.circle.ensures)

pub returns-clause-kept : goal.returns-clause-kept
returns-clause-kept c = kept c.args.keeper.now c.circle.new.self c.circle.result _ c.circle.ensures
