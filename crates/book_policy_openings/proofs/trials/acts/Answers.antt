use Rattle.std.proofs.Common.{sym, subst}
use Rattle.book_machine.specs.Steps.{Serves}
use Rattle.book_office.specs.Sound.{IsSound}
use Rattle.book_office_values.specs.declared.offices.Office.{Office}
use Rattle.book_policy_openings.proofs.trials.acts.Goals as goal

pub returns-clause-acted : goal.returns-clause-acted
returns-clause-acted c = λ agreed sound.
    let same = c.in_ok-request.ensures.kept sound in (
      c.in_ok-request.request,
      c.serve_in-reply.result,
      c.in_ok-request.ensures.request sound,
      c.if-status-ge300.false,
      subst (λ (o : Office). Serves o c.args.caller.now c.in_ok-request.request c.serve_in-reply.result c.serve_in-reply.new.machine.keeper) same
          (c.serve_in-reply.ensures.served (subst IsSound (sym same) sound)),
    )

pub returns-clause-sound : goal.returns-clause-sound
returns-clause-sound c = λ sound. c.serve_in-reply.ensures.sound (subst IsSound (sym (c.in_ok-request.ensures.kept sound)) sound)
