use Rattle.std.proofs.Common.{subst}
use Rattle.std.proofs.lemmas.Result.{IfOk-weaker}
use Rattle.book_office_values.specs.declared.offices.Office.{Office}
use Rattle.book_policy_openings.specs.Openings.{IsOpeningFrom}
use Rattle.book_policy_openings.proofs.trials.is_opening.Goals as goal

pub returns-clause-opens : goal.returns-clause-opens
returns-clause-opens c =
    IfOk-weaker c.opens_from-opens.result _ _
    (λ opens is agreed sound. subst (λ (o : Office). IsOpeningFrom o c.args.opening.now) (c.in_ok-machine.ensures.office sound) (is agreed (c.in_ok-machine.ensures.sound sound)))
    c.opens_from-opens.ensures
