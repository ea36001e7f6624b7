use Rattle.std.proofs.Common.{subst}
use Rattle.std.proofs.lemmas.Result.{IfOk-weaker}
use Rattle.book_office_values.specs.declared.offices.Office.{Office}
use Rattle.book_policy_warnings.specs.Warnings.{AreWarningsIn}
use Rattle.book_policy_warnings.proofs.warnings.warnings_of.Goals as goal

pub returns : goal.returns
returns c =
    IfOk-weaker c.warnings_in.result _ _
    (λ warnings are. subst (λ (o : Office). AreWarningsIn c.args.policy.now o warnings) c.in_ok-machine.ensures.office (are c.in_ok-machine.ensures.sound))
    c.warnings_in.ensures
