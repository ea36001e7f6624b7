use Rattle.book_office.proofs.Common.{◌≡◌, ◌≢◌, Some, None, sym, ap, ◌∙◌, subst, on_ok_weaker, on_err_weaker, get, insert, same_Some, move_to, remove_card, Book}
use Rattle.book_office_values.specs.Names.{changed_at}
use Rattle.book_office.specs.Moving.{bare_book}
use Rattle.book_office.proofs.MovedCards.{other_book, across, alone_kept}
use Rattle.book_office.proofs.moving.move_across.Goals as goal

pub returns-clause-ok : goal.returns-clause-ok
returns-clause-ok c = on_ok_weaker c.move_into-moved.result (λ h numbered source target at beside there.
    let was : get c.args.books.now c.args.from_book.now ≡ Some c.in-Some.source = sym c.in-Some.ensures.found in
    let is : c.in-Some.source ≡ source = same_Some c.in-Some.source source (sym was ∙ at) in
    let r = h (numbered c.args.from_book.now c.in-Some.source was) target (ap (λ m. get m c.args.to_book.now) c.in-Some.ensures.left ∙ other_book c.args.books.now c.args.from_book.now c.args.to_book.now c.requires bare_book c.in-Some.source was ∙ beside)
    (numbered c.args.to_book.now target beside)
    (subst (λ (b : Book). get b.cards c.args.from.now ≢ None) (sym is) there) in
    c.give_back.ensures
    ∙ (λ i. changed_at (λ (_ : Book). r.0 i) (r.1 i) c.args.from_book.now)
    ∙ ap (λ m. changed_at (λ (_ : Book). remove_card c.args.from.now c.in-Some.source) (insert m c.args.to_book.now (move_to (get c.in-Some.source.cards c.args.from.now) c.args.to.now target)) c.args.from_book.now) c.in-Some.ensures.left
    ∙ across c.args.books.now c.args.from_book.now c.args.to_book.now c.requires bare_book c.in-Some.source was (remove_card c.args.from.now c.in-Some.source) (move_to (get c.in-Some.source.cards c.args.from.now) c.args.to.now target)
    ∙ (λ i. insert (insert c.args.books.now c.args.from_book.now (remove_card c.args.from.now (is i))) c.args.to_book.now (move_to (get (is i).cards c.args.from.now) c.args.to.now target)))
    c.move_into-moved.ensures.ok

pub returns-clause-err : goal.returns-clause-err
returns-clause-err c = on_err_weaker c.move_into-moved.result (λ h.
    let was : get c.args.books.now c.args.from_book.now ≡ Some c.in-Some.source = sym c.in-Some.ensures.found in
    c.give_back.ensures
    ∙ (λ i. changed_at (λ (_ : Book). h.0 i) (h.1 i) c.args.from_book.now)
    ∙ ap (λ m. changed_at (λ (_ : Book). c.in-Some.source) m c.args.from_book.now) c.in-Some.ensures.left
    ∙ alone_kept c.args.books.now c.args.from_book.now c.args.to_book.now c.requires bare_book c.in-Some.source was)
    c.move_into-moved.ensures.err
