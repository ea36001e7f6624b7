use Rattle.book_office_values.proofs.Common.{◌++◌, codes, Some, None, ap, sym, ◌∙◌, arith, drop, length}
use Rattle.std.proofs.Common.{lit<}
use Rattle.std.proofs.lemmas.Bool.{eqb-true}
use Rattle.std.proofs.lemmas.Str.Pattern.{split_after}
use Rattle.book_office_values.proofs.Slashes.{no_slash, two_below}
use Rattle.book_office_values.proofs.paths.book_and_card.Goals as goal

pub returns-in_err-after_slash-clause-only : goal.returns-in_err-after_slash-clause-only
returns-in_err-after_slash-clause-only c = λ book card is_book is_card e. absurd (c.in_err-after_slash.ensures.none (book ++ codes "/" ++ card) e)

pub returns-in_err-book-clause-only : goal.returns-in_err-book-clause-only
returns-in_err-book-clause-only c = λ book card is_book is_card e.
    absurd (split_after 47 c.in_ok-after_slash.field-0.now book card None c.in_err-book.ensures.cases (lit< tt)
    (ap (drop 1) (sym c.in_ok-after_slash.ensures.some) ∙ two_below c.args.rest.now book card e) (no_slash book is_book))

pub returns-then-is_empty-clause-only : goal.returns-then-is_empty-clause-only
returns-then-is_empty-clause-only c = λ book card is_book is_card e.
    let parts = split_after 47 c.in_ok-after_slash.field-0.now book card (Some (c.in_ok-book.book, c.in_ok-book.card)) c.in_ok-book.ensures.cases (lit< tt)
    (ap (drop 1) (sym c.in_ok-after_slash.ensures.some) ∙ two_below c.args.rest.now book card e) (no_slash book is_book) in
    omega (arith, is_card.some, ap length parts.1, eqb-true (length c.in_ok-book.card.now) 0 (sym c.is_empty.ensures ∙ c.if-is_empty.true))

pub returns-clause-only : goal.returns-clause-only
returns-clause-only c = λ book card is_book is_card e.
    split_after 47 c.in_ok-after_slash.field-0.now book card (Some (c.in_ok-book.book, c.in_ok-book.card)) c.in_ok-book.ensures.cases (lit< tt)
    (ap (drop 1) (sym c.in_ok-after_slash.ensures.some) ∙ two_below c.args.rest.now book card e) (no_slash book is_book)
