use Rattle.book_wire.proofs.Common.{refl, ap, ◌++◌, ◌∙◌, ℕ, List}
use Rattle.book_machine.specs.Refusals.{refused}
use Rattle.book_machine.specs.declared.refusals.Refusal.TheVariants.{Unavailable}
use Rattle.book_wire.specs.Spelling.{spelling}
use Rattle.book_wire.proofs.reply.send.Goals as goal

pub returns-in-Ok-clause-ok : goal.returns-in-Ok-clause-ok
returns-in-Ok-clause-ok c = (c.args.reply, refl, c.in-Ok.ensures.ok)

pub returns-in-Ok-send_unavailable-clause-ok : goal.returns-in-Ok-send_unavailable-clause-ok
returns-in-Ok-send_unavailable-clause-ok c = (
  refused Unavailable,
  (c.has_content-telling.ensures c.if-telling.true, refl),
  c.in-Ok-send_unavailable.ensures.ok
      ∙ ap (λ (t : List ℕ). t ++ spelling (refused Unavailable) c.args.bare c.args.closes) c.in-Err.ensures.err,
)

pub returns-in-Err-send_unavailable-clause-err : goal.returns-in-Err-send_unavailable-clause-err
returns-in-Err-send_unavailable-clause-err c =
    let x = c.in-Err-send_unavailable.ensures.err in (x.0, x.1 ∙ c.in-Err.ensures.err)

pub returns-else-telling-clause-err : goal.returns-else-telling-clause-err
returns-else-telling-clause-err c = (refl, c.in-Err.ensures.err)
