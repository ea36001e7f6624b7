use Rattle.book_office_sync.proofs.Common.{◌++◌, ◌∷◌}
use Rattle.std.specs.Prelude.{decimal}
use Rattle.book_office_values.proofs.Slashes.{no_slash}
use Rattle.book_office_sync.proofs.TokenTexts.{number_no_slash, text_parts, text_of_parts}
use Rattle.book_office_sync.proofs.tokens.parts.Goals as goal

pub returns-in_err-epoch-clause-only : goal.returns-in_err-epoch-clause-only
returns-in_err-epoch-clause-only c = λ token is e.
    let rest = text_parts c.args.text.now c.in_ok-rest.rest.now token c.in_ok-rest.ensures.some e in
    let book = c.in_ok-book.ensures.first token.book (decimal token.epoch ++ 47 ∷ decimal token.number) (no_slash token.book is.book) rest in
    absurd (c.in_err-epoch.ensures.first (decimal token.epoch) (decimal token.number) (number_no_slash token.epoch is.epoch) book.1)

pub returns-clause-some : goal.returns-clause-some
returns-clause-some c =
    text_of_parts c.args.text.now c.in_ok-rest.rest.now c.in_ok-book.numbers.now c.in_ok-book.book.now c.in_ok-epoch.epoch.now c.in_ok-epoch.number.now
    c.in_ok-rest.ensures.some c.in_ok-book.ensures.some c.in_ok-epoch.ensures.some

pub returns-clause-only : goal.returns-clause-only
returns-clause-only c = λ token is e.
    let rest = text_parts c.args.text.now c.in_ok-rest.rest.now token c.in_ok-rest.ensures.some e in
    let book = c.in_ok-book.ensures.first token.book (decimal token.epoch ++ 47 ∷ decimal token.number) (no_slash token.book is.book) rest in
    let epoch = c.in_ok-epoch.ensures.first (decimal token.epoch) (decimal token.number) (number_no_slash token.epoch is.epoch) book.1 in
    (book.0, epoch.0, epoch.1)
