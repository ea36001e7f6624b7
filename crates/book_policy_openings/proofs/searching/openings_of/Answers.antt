use Rattle.std.proofs.Common.{subst}
use Rattle.std.specs.Prelude.{All}
use Rattle.std.proofs.lemmas.Result.{IfOk-weaker}
use Rattle.book_office_values.specs.declared.offices.Office.{Office}
use Rattle.book_policy_openings.specs.Openings.{IsOpeningIn}
use Rattle.book_policy_openings.proofs.searching.openings_of.Goals as goal

pub returns : goal.returns
returns c =
    IfOk-weaker c.openings_in.result _ _
    (λ told are. subst (λ (o : Office). All (IsOpeningIn o) told) c.in_ok-machine.ensures.office (are c.in_ok-machine.ensures.sound))
    c.openings_in.ensures.told
