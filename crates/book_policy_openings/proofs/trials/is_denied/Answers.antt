use Rattle.std.proofs.Common.{◌∙◌, ap}
use Rattle.book_machine.specs.declared.messages.Content.TheVariants as content
use Rattle.book_machine.specs.declared.refusals.Refusal.TheVariants.{NeedPrivileges}
use Rattle.book_policy_openings.proofs.Reading.{same_reply}
use Rattle.book_policy_openings.proofs.trials.is_denied.Goals as goal

pub returns-in-Refusal : goal.returns-in-Refusal
returns-in-Refusal c = λ agreed.
    let denial = c.is_denial.ensures agreed in (
      denial.0,
      same_reply c.args.reply.now 403 (content.Refusal (NeedPrivileges denial.0)) c.if-reply-ne403.false
          (c.in-Refusal.is ∙ ap (λ r. content.Refusal r) denial.1),
    )
