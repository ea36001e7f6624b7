use Rattle.std.proofs.Common.{◌≡◌, ap, sym, subst, ◌∙◌}
use Rattle.book_office.specs.Edits.{apply}
use Rattle.book_office.specs.Sound.{IsSound}
use Rattle.book_office_adopting.specs.TakingOver.{bare}
use Rattle.book_office_copies.proofs.BareOffices.{bare_sound}
use Rattle.book_office_values.specs.declared.offices.Office.{Office}
use Rattle.book_policy_openings.specs.Openings.{trial_card}
use Rattle.book_policy_openings.proofs.trials.trial.Goals as goal

pub returns-in-Ok-clause-office : goal.returns-in-Ok-clause-office
returns-in-Ok-clause-office c = λ sound.
    let start : c.new-machine.result.keeper ≡ bare c.args.start.now = c.new-machine.ensures ∙ c.from_office.ensures ∙ c.in_ok-office.ensures.bare sound in
    let still = subst IsSound (sym start) (bare_sound c.args.start.now sound) in
    c.in-Ok.ensures.office still ∙ ap (λ (o : Office). apply o (trial_card c.args.book.now)) start

pub returns-in-Ok-clause-sound : goal.returns-in-Ok-clause-sound
returns-in-Ok-clause-sound c = λ sound.
    let start : c.new-machine.result.keeper ≡ bare c.args.start.now = c.new-machine.ensures ∙ c.from_office.ensures ∙ c.in_ok-office.ensures.bare sound in
    c.in-Ok.ensures.sound (subst IsSound (sym start) (bare_sound c.args.start.now sound))
