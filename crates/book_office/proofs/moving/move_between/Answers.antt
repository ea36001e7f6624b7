use Rattle.book_office.proofs.Common.{◌≡◌, Some, sym, ap, ◌∙◌, get, insert, move_to, handed, unroomed}
use Rattle.book_office.proofs.MovedCards.{handed_roomed, unroomed_roomed}
use Rattle.book_office.proofs.moving.move_between.Goals as goal

pub returns-in-Err-clause-err_target : goal.returns-in-Err-clause-err_target
returns-in-Err-clause-err_target c =
    let cards : c.take_room.new.cards ≡ c.args.target.now.cards =
    c.take_room.ensures ∙ (λ i. unroomed (c.in_ok-made.ensures.ok i) c.args.to.now (c.in_ok-made.ensures.made i)) ∙ unroomed_roomed c.args.target.now.cards c.args.to.now in
    let changes = c.in-Err.ensures.err_there in
    λ i. record { properties = c.args.target.now.properties; cards = cards i; changes = changes i }

pub returns-in-Some-clause-ok_target : goal.returns-in-Some-clause-ok_target
returns-in-Some-clause-ok_target c = λ _.
    let at : get c.args.source.now.cards c.args.from.now ≡ Some c.in-Some.card = sym c.in-Some.ensures.before in
    let cards : c.hand_over.new.cards ≡ insert c.args.target.now.cards c.args.to.now c.in-Some.card =
    c.hand_over.ensures ∙ ap (λ m. handed c.in-Some.card m c.args.to.now) c.in_ok-made.ensures.ok ∙ handed_roomed c.args.target.now.cards c.args.to.now c.in-Some.card in
    let changes = c.in_default.ensures.ok_there in
    (λ i. record { properties = c.args.target.now.properties; cards = cards i; changes = changes i })
    ∙ sym (ap (λ card. move_to card c.args.to.now c.args.target.now) at)
