use Rattle.book_office_members.proofs.Common.{◌≡◌, Some, None, sym, ap, subst, Seen, AreCardsOf}
use Rattle.std.proofs.lemmas.Result.{on_ok_weaker}
use Rattle.book_office_sync.specs.Copies.{patched}
use Rattle.book_office_members.specs.Members.{card_of}
use Rattle.book_office_members.proofs.Views.{card_put, card_removed}
use Rattle.book_office_members.proofs.told_cards.apply_item.Goals as goal

pub returns-in-Some : goal.returns-in-Some
returns-in-Some c =
    on_ok_weaker c.put_card.result (λ put copy are.
    let item = c.args.item in
    let found = c.in-Some.found in
    let s : Seen = record { number = item.number; label = found.label; text = found.text } in
    let cards = c.put_card.new.cards in
    let text : card_of item.name c.as_str.result.now ≡ card_of item.name found.text = ap (card_of item.name) c.as_str.ensures in
    subst (λ f. AreCardsOf (patched copy item f) cards) (sym c.in-Some.is)
    (card_put copy c.args.cards.now cards item.name s (card_of item.name c.as_str.result.now) are text put)) c.put_card.ensures

pub returns-in-None : goal.returns-in-None
returns-in-None c = λ copy are.
    let item = c.args.item in
    let step : AreCardsOf (patched copy item None) c.remove-before.new.self =
    card_removed copy c.args.cards.now c.remove-before.new.self item.name are c.remove-before.ensures.removed in
    subst (λ f. AreCardsOf (patched copy item f) c.remove-before.new.self) (sym c.in-None.is) step
