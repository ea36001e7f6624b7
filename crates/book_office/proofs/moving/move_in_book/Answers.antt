use Rattle.book_office.proofs.Common.{◌≡◌, ◌≢◌, None, sym, ap, ◌∙◌, subst, on_ok_weaker, on_err_weaker, get, insert, same_Some, move_to, remove_card, Book, at_some, insert_same}
use Rattle.book_office.proofs.moving.move_in_book.Goals as goal

pub returns-in-Some-clause-ok : goal.returns-in-Some-clause-ok
returns-in-Some-clause-ok c = on_ok_weaker c.move_within.result (λ h numbered apart old at there.
    let is : c.in-Some.book.now ≡ old = same_Some c.in-Some.book.now old (c.in-Some.ensures.value ∙ at) in
    at_some c.get_mut.result _ c.in-Some.is (c.get_mut.follows.holds c.move_within.new.book)
    ∙ ap (insert c.args.books.now c.args.book.now) (subst (λ (b : Book). get b.cards c.args.from.now ≢ None → c.move_within.new.book ≡ move_to (get b.cards c.args.from.now) c.args.to.now (remove_card c.args.from.now b)) is (h apart) there))
    c.move_within.ensures.ok

pub returns-in-Some-clause-err : goal.returns-in-Some-clause-err
returns-in-Some-clause-err c = on_err_weaker c.move_within.result (λ e.
    at_some c.get_mut.result _ c.in-Some.is (c.get_mut.follows.holds c.move_within.new.book)
    ∙ ap (insert c.args.books.now c.args.book.now) e
    ∙ insert_same c.args.books.now c.args.book.now c.in-Some.book.now (sym c.in-Some.ensures.value))
    c.move_within.ensures.err
