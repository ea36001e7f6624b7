use Rattle.std.proofs.Common.{Option, sym, subst}
use Rattle.std.proofs.lemmas.Result.{IfOk-weaker, on_ok_weaker}
use Rattle.book_office.specs.Sound.{IsSound}
use Rattle.book_policy_openings.specs.Openings.{Leads}
use Rattle.book_policy_openings.specs.declared.steps.Step.{Step}
use Rattle.book_policy_openings.proofs.trials.leads.Goals as goal

pub returns-in-Some-clause-led : goal.returns-in-Some-clause-led
returns-in-Some-clause-led c =
    IfOk-weaker c.acts-in-Some.result _ _
    (λ led acted agreed sound.
    subst (λ (second : Option Step). Leads c.args.machine.now.keeper c.args.caller.now c.args.first.now second c.acts-in-Some.new.machine.keeper) (sym c.in-Some.is)
    (c.acts.new.machine.keeper, c.in_ok-acted.ensures.acted c.if-not-acted.false sound, acted agreed (c.in_ok-acted.ensures.sound sound)))
    c.acts-in-Some.ensures.acted

pub returns-in-Some-clause-sound : goal.returns-in-Some-clause-sound
returns-in-Some-clause-sound c =
    on_ok_weaker {P = IsSound c.acts.new.machine.keeper → IsSound c.acts-in-Some.new.machine.keeper} {Q = IsSound c.args.machine.now.keeper → IsSound c.acts-in-Some.new.machine.keeper}
    c.acts-in-Some.result (λ after sound. after (c.in_ok-acted.ensures.sound sound)) c.acts-in-Some.ensures.sound

pub returns-in-None-clause-led : goal.returns-in-None-clause-led
returns-in-None-clause-led c = λ agreed sound.
    subst (λ (second : Option Step). Leads c.args.machine.now.keeper c.args.caller.now c.args.first.now second c.acts.new.machine.keeper) (sym c.in-None.is)
    (c.in_ok-acted.ensures.acted c.if-not-acted.false sound)
