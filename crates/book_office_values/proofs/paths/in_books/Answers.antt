use Rattle.book_office_values.proofs.Common.{◌++◌, codes, subst, sym, IsName}
use Rattle.book_office_values.proofs.Spelling.{none_at_card, passed_on}
use Rattle.book_office_values.proofs.paths.in_books.Goals as goal

pub returns-in_err-name-in-Some-clause-bad : goal.returns-in_err-name-in-Some-clause-bad
returns-in_err-name-in-Some-clause-bad c =
    passed_on _ _ (codes "/books" ++ c.args.rest.now) c.from_residual.ensures.1 (λ f. none_at_card c.args.rest.now c.in-Some.book.now c.in-Some.card.now c.in_default.not-empty c.in_default.not-text
    c.in-Some.ensures.some (λ b d is_b is_d e. c.in_err-name-in-Some.ensures.bad f (subst IsName (sym (c.in-Some.ensures.only b d is_b is_d e).0) is_b)))

pub returns-in_err-name-in-Some-2-clause-bad : goal.returns-in_err-name-in-Some-2-clause-bad
returns-in_err-name-in-Some-2-clause-bad c =
    passed_on _ _ (codes "/books" ++ c.args.rest.now) c.from_residual-in_err-name-in-Some-2.ensures.1 (λ f. none_at_card c.args.rest.now c.in-Some.book.now c.in-Some.card.now c.in_default.not-empty c.in_default.not-text
    c.in-Some.ensures.some (λ b d is_b is_d e. c.in_err-name-in-Some-2.ensures.bad f (subst IsName (sym (c.in-Some.ensures.only b d is_b is_d e).1) is_d)))
