use Rattle.book_office.proofs.Common.{◌≡◌, Some, sym, ap, ◌∙◌, get, insert, remove, move_to, remove_card, handed, unroomed}
use Rattle.book_office.proofs.MovedCards.{handed_away, roomed_elsewhere, unroomed_roomed}
use Rattle.book_office.proofs.moving.move_within.Goals as goal

pub returns-in-Err-clause-err : goal.returns-in-Err-clause-err
returns-in-Err-clause-err c =
    let cards : c.take_room.new.cards ≡ c.args.book.now.cards =
    c.take_room.ensures ∙ (λ i. unroomed (c.in_ok-made.ensures.ok i) c.args.to.now (c.in_ok-made.ensures.made i)) ∙ unroomed_roomed c.args.book.now.cards c.args.to.now in
    let changes = c.in-Err.ensures.err in
    λ i. record { properties = c.args.book.now.properties; cards = cards i; changes = changes i }

pub returns-in-Some-clause-ok : goal.returns-in-Some-clause-ok
returns-in-Some-clause-ok c = λ apart there.
    let at : get c.args.book.now.cards c.args.from.now ≡ Some c.in-Some.card =
    sym (roomed_elsewhere c.args.book.now.cards c.args.to.now c.args.from.now apart) ∙ sym (ap (λ m. get m c.args.from.now) c.in_ok-made.ensures.ok) ∙ sym c.in-Some.ensures.before in
    let cards : c.hand_over.new.cards ≡ insert (remove c.args.book.now.cards c.args.from.now) c.args.to.now c.in-Some.card =
    c.hand_over.ensures ∙ ap (λ m. handed c.in-Some.card m c.args.to.now) (c.in-Some.ensures.removed ∙ ap (λ m. remove m c.args.from.now) c.in_ok-made.ensures.ok)
    ∙ handed_away c.args.book.now.cards c.args.to.now c.in-Some.card c.args.from.now apart in
    let changes = c.in_default.ensures.ok in
    (λ i. record { properties = c.args.book.now.properties; cards = cards i; changes = changes i })
    ∙ sym (ap (λ card. move_to card c.args.to.now (remove_card c.args.from.now c.args.book.now)) at)

pub returns-in-None-clause-ok : goal.returns-in-None-clause-ok
returns-in-None-clause-ok c = λ apart there.
    absurd (there (sym (roomed_elsewhere c.args.book.now.cards c.args.to.now c.args.from.now apart) ∙ sym (ap (λ m. get m c.args.from.now) c.in_ok-made.ensures.ok) ∙ sym c.in-None.ensures.before))
