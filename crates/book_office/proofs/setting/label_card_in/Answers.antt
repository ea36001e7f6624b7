use Rattle.book_office.proofs.Common.{sym, ap, ◌∙◌, on_ok_weaker, on_err_weaker, get, insert, Book, changed_if, label_card, at_some, insert_same}
use Rattle.book_office.proofs.setting.label_card_in.Goals as goal

pub returns-in-Some-clause-ok : goal.returns-in-Some-clause-ok
returns-in-Some-clause-ok c = on_ok_weaker c.label_card.result (λ e _.
    at_some c.get_mut.result _ c.in-Some.is (c.get_mut.follows.holds c.label_card.new.book)
    ∙ ap (insert c.args.books.now c.args.book.now) e
    ∙ ap (changed_if (λ (b : Book). label_card c.args.card.now c.args.label (get b.cards c.args.card.now) b) c.args.books.now c.args.book.now) c.in-Some.ensures.value)
    c.label_card.ensures.ok

pub returns-in-Some-clause-err : goal.returns-in-Some-clause-err
returns-in-Some-clause-err c = on_err_weaker c.label_card.result (λ e.
    at_some c.get_mut.result _ c.in-Some.is (c.get_mut.follows.holds c.label_card.new.book)
    ∙ ap (insert c.args.books.now c.args.book.now) e
    ∙ insert_same c.args.books.now c.args.book.now c.in-Some.book.now (sym c.in-Some.ensures.value))
    c.label_card.ensures.err
