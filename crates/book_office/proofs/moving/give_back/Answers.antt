use Rattle.book_office.proofs.Common.{ap, ◌∙◌, Book, at_some}
use Rattle.book_office_values.specs.Names.{changed_if}
use Rattle.book_office.proofs.moving.give_back.Goals as goal

pub returns-in-Some : goal.returns-in-Some
returns-in-Some c =
    at_some c.get_mut.result _ c.in-Some.is (c.get_mut.follows.holds _)
    ∙ ap (changed_if (λ (_ : Book). c.args.book) c.args.books.now c.args.name.now) c.in-Some.ensures.value
