use Rattle.book_cards.proofs.Common.{ap, sym, ◌∙◌}
use Rattle.std.specs.Option.{ok_or}
use Rattle.book_cards.specs.declared.fault.CardFaultKind.TheVariants.{Twice}
use Rattle.book_cards.specs.Scanning.{seen_with, pass_content}
use Rattle.book_cards.proofs.check.pass.Goals as goal

pub returns-in-Some-with-clause-ok : goal.returns-in-Some-with-clause-ok
returns-in-Some-with-clause-ok c = (
  ap (pass_content c.args.seen c.args.number) (sym c.in-Some.ensures.line)
      ∙ ap (λ p. ok_or (seen_with c.args.seen p c.in-Some.content.value.now c.args.number) Twice) (sym c.in-Some.ensures.named)
      ∙ ap (λ o. ok_or o Twice) (sym c.in-Some-with.ensures),
  c.in-Some.ensures.property,
)

pub returns-in-None-clause-err : goal.returns-in-None-clause-err
returns-in-None-clause-err c =
    ap (pass_content c.args.seen c.args.number) (sym c.in-Some.ensures.line)
    ∙ ap (λ p. ok_or (seen_with c.args.seen p c.in-Some.content.value.now c.args.number) Twice) (sym c.in-Some.ensures.named)
    ∙ ap (λ o. ok_or o Twice) (sym c.in-None.ensures)
