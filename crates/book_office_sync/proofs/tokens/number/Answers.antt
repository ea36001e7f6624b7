use Rattle.book_office_sync.proofs.Common.{rules, ◌∙◌, sym, arith}
use Rattle.std.proofs.lemmas.Fmt.{parse-decimal}
use Rattle.book_office_sync.proofs.TokenTexts.{short, none_surplus, is_decimal, apart, same_ok}
use Rattle.book_office_sync.proofs.tokens.number.Goals as goal

pub returns-then-has_surplus-clause-none : goal.returns-then-has_surplus-clause-none
returns-then-has_surplus-clause-none c = λ n few e. none_surplus c.args.text.now n few e (sym c.has_surplus.ensures ∙ c.if-has_surplus.true)

pub returns-in-Ok-clause-some : goal.returns-in-Ok-clause-some
returns-in-Ok-clause-some c = (
  search rules,
  is_decimal c.args.text.now c.in-Ok.number c.parse.result c.parse.ensures.value.0 (search rules) (sym c.has_surplus.ensures ∙ c.if-has_surplus.false),
)

pub returns-in_default-clause-none : goal.returns-in_default-clause-none
returns-in_default-clause-none c = λ n few e.
    let is = parse-decimal 64 n c.args.text.now c.parse.result (short n few) (short n few) e c.parse.ensures.value.0 in
    let same = same_ok c.parse.result n c.in-Ok.number is c.in-Ok.is in
    omega (arith, few, same, c.if-number-le-LAST_NUMBER.false)

pub returns-in_default-2-clause-none : goal.returns-in_default-2-clause-none
returns-in_default-2-clause-none c = λ n few e.
    let is = parse-decimal 64 n c.args.text.now c.parse.result (short n few) (short n few) e c.parse.ensures.value.0 in
    apart c.parse.result n c.in_default.field-0 is c.in_default.is
