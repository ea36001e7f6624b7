use Rattle.book_office.proofs.Common.{ap, ◌∙◌, changed_if, list_set, with_book_properties, at_some}
use Rattle.book_office.proofs.setting.list_book.Goals as goal

pub returns-in-Some : goal.returns-in-Some
returns-in-Some c =
    at_some c.get_mut.result _ c.in-Some.is (c.get_mut.follows.holds _)
    ∙ ap (changed_if (with_book_properties (list_set c.args.own)) c.args.books.now c.args.name.now) c.in-Some.ensures.value
