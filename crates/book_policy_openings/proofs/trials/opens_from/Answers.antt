use Rattle.std.proofs.Common.{sym, subst}
use Rattle.std.proofs.lemmas.Result.{IfOk-weaker}
use Rattle.book_office.specs.Sound.{IsSound}
use Rattle.book_office_values.specs.declared.offices.Office.{Office}
use Rattle.book_policy_openings.specs.Openings.{Leads, Reads}
use Rattle.book_policy_openings.proofs.trials.opens_from.Goals as goal

pub returns : goal.returns
returns c =
    let o = c.args.machine.now.keeper in
    let caller = c.args.opening.now.caller in
    let book = c.args.opening.now.book in
    IfOk-weaker c.may_read-2.result _ _
    (λ may told agreed sound.
    let same = c.in_ok-open.ensures.kept sound in
    let still = subst IsSound (sym same) sound in
    record {
      after = c.leads.new.machine.keeper;
      closed = subst (Reads o caller book) c.if-open.false (c.in_ok-open.ensures.told sound);
      led = subst (λ (start : Office). Leads start caller c.args.opening.now.first c.args.opening.now.second c.leads.new.machine.keeper) same
          (c.in_ok-led.ensures.led c.if-not-led.false still);
      opened = subst (Reads c.leads.new.machine.keeper caller book) agreed (told (c.in_ok-led.ensures.sound still));
    })
    c.may_read-2.ensures.told
