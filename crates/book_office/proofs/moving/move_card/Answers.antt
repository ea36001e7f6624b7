use Rattle.book_office.proofs.Common.{rules, ◌≡◌, ◌≢◌, on_ok_weaker}
use Rattle.book_office.proofs.MovedCards.{moved_within, moved_across}
use Rattle.book_office.proofs.moving.move_card.Goals as goal

pub returns-then-eq-clause-ok : goal.returns-then-eq-clause-ok
returns-then-eq-clause-ok c =
    let one : c.args.from_book.now ≡ c.args.to_book.now = search rules in
    on_ok_weaker c.move_in_book.result (λ h numbered mapped beside apart.
    moved_within c.args.office.now c.args.from_book.now c.args.from_card.now c.args.to_book.now c.args.to_card.now c.move_in_book.new.books one mapped (apart one) (h numbered))
    c.move_in_book.ensures.ok

pub returns-else-eq-clause-ok : goal.returns-else-eq-clause-ok
returns-else-eq-clause-ok c =
    let two : c.args.from_book.now ≢ c.args.to_book.now = search rules in
    on_ok_weaker c.move_across.result (λ h numbered mapped beside apart.
    moved_across c.args.office.now c.args.from_book.now c.args.from_card.now c.args.to_book.now c.args.to_card.now c.move_across.new.books two mapped beside (h numbered))
    c.move_across.ensures.ok
