use Rattle.book_office.proofs.Common.{rules, ◌≡◌, ap, ◌∙◌, insert, Book, at_some}
use Rattle.book_office_values.specs.Names.{changed_if}
use Rattle.book_office.specs.Moving.{bare_book}
use Rattle.book_office.proofs.moving.take_book.Goals as goal

pub returns-in-Some-clause-left : goal.returns-in-Some-clause-left
returns-in-Some-clause-left c =
    let bare : c.replace.new.dest ≡ bare_book = search rules in
    at_some c.get_mut.result _ c.in-Some.is (c.get_mut.follows.holds c.replace.new.dest)
    ∙ ap (insert c.args.books.now c.args.name.now) bare
    ∙ ap (changed_if (λ (_ : Book). bare_book) c.args.books.now c.args.name.now) c.in-Some.ensures.value
