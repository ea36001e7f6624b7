use Rattle.std.proofs.Common.{subst}
use Rattle.book_office_values.specs.declared.offices.Office.{Office}
use Rattle.book_policy_warnings.specs.Warnings.{AreWarningsIn}
use Rattle.book_policy_warnings.proofs.warnings.warnings_over.Goals as goal

pub returns-in-Ok-clause-told : goal.returns-in-Ok-clause-told
returns-in-Ok-clause-told c = λ sound.
    subst (λ (o : Office). AreWarningsIn c.args.policy.now o c.in-Ok.warnings) (c.in_ok-machine.ensures.office sound) (c.in-Ok.ensures (c.in_ok-machine.ensures.sound sound))
