use Rattle.book_office_members.proofs.Common.{◌∙◌, sym, ap, Some}
use Rattle.book_cards.proofs.ValidLaws.{card_complete}
use Rattle.book_cards.specs.CardText.{formatted_in}
use Rattle.book_office_members.specs.Names.{name_unless}
use Rattle.book_office_members.proofs.names.NameSaidFromText.from_text.Goals as goal

pub returns-in_ok-name-in-Ok : goal.returns-in_ok-name-in-Ok
returns-in_ok-name-in-Ok c =
    let text = c.args.text.now in
    let read = c.in-Ok.ensures.card in
    let none = card_complete text read.0 in
    ap Some (c.in_ok-name-in-Ok.ensures ∙ c.formatted.ensures ∙ ap formatted_in read.1) ∙ sym (λ i. name_unless (none i) text)
