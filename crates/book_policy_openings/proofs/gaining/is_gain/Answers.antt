use Rattle.std.proofs.Common.{◌≡◌, ◌∙◌, sym, subst}
use Rattle.std.proofs.lemmas.Result.{IfOk-weaker}
use Rattle.book_office.specs.Sound.{IsSound}
use Rattle.book_office_adopting.specs.TakingOver.{bare}
use Rattle.book_office_copies.proofs.BareOffices.{bare_sound}
use Rattle.book_office_values.specs.declared.offices.Office.{Office}
use Rattle.book_policy_openings.specs.Gains.{IsGainFrom}
use Rattle.book_policy_openings.proofs.gaining.is_gain.Goals as goal

pub returns-clause-gains : goal.returns-clause-gains
returns-clause-gains c =
    IfOk-weaker c.gains_from-gains.result _ _
    (λ gains is agreed sound.
    let start : c.new-machine.result.keeper ≡ bare c.args.start.now = c.new-machine.ensures ∙ c.from_office.ensures ∙ c.in_ok-office.ensures.bare sound in
    subst (λ (o : Office). IsGainFrom o c.args.gain.now) start (is agreed (subst IsSound (sym start) (bare_sound c.args.start.now sound))))
    c.gains_from-gains.ensures
