use Rattle.book_office.proofs.Common.{ap, ◌∙◌, insert, changed_at, changed_if, listed_card, with_cards, at_some}
use Rattle.book_office.proofs.setting.list_card_in.Goals as goal

pub returns-in-Some : goal.returns-in-Some
returns-in-Some c =
    at_some c.get_mut.result _ c.in-Some.is (c.get_mut.follows.holds _)
    ∙ ap (λ cards. insert c.args.books.now c.args.book.now (record c.in-Some.book.now { cards = cards })) c.replace_list.ensures
    ∙ ap (changed_if (with_cards (λ cards. changed_at (listed_card c.args.own) cards c.args.card.now)) c.args.books.now c.args.book.now) c.in-Some.ensures.value
