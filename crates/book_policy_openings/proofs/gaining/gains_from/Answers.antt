use Rattle.std.proofs.Common.{◌∙◌, sym, subst}
use Rattle.book_office.specs.Sound.{IsSound}
use Rattle.book_office_values.specs.declared.offices.Office.{Office}
use Rattle.book_policy_openings.specs.Gains.{Holds}
use Rattle.book_policy_openings.specs.Openings.{Leads}
use Rattle.book_policy_openings.proofs.gaining.gains_from.Goals as goal

pub returns : goal.returns
returns c = λ agreed sound.
    let gain = c.args.gain.now in
    let first = c.in_ok-there.ensures.kept sound in
    let still = subst IsSound (sym first) sound in
    let second = c.in_ok-before.ensures.kept still in
    let then = subst IsSound (sym second) still in
    record {
      later = c.leads.new.machine.keeper;
      before = c.in_ok-before.before;
      after = c.in_ok-after.after;
      there = c.in_ok-there.ensures.there c.if-not-there.false sound;
      held = subst (λ (o : Office). Holds o gain.caller gain.at c.in_ok-before.before) first (c.in_ok-before.ensures.held still);
      led = subst (λ (start : Office). Leads start gain.caller gain.first gain.second c.leads.new.machine.keeper) (second ∙ first)
          (c.in_ok-led.ensures.led c.if-not-led.false then);
      holds = c.in_ok-after.ensures.held (c.in_ok-led.ensures.sound then);
      gained = c.are_gained.ensures agreed;
    }
