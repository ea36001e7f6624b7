use Rattle.book_office_members.proofs.Common.{◌≡◌, ◌∙◌, sym, CardRef}
use Rattle.std.proofs.lemmas.Result.{IfOk-weaker}
use Rattle.book_cards.proofs.ValidLaws.{card_complete}
use Rattle.book_cards.specs.CardText.{members_in, uid_in}
use Rattle.book_office_members.specs.Members.{card_of, members_unless, uid_unless}
use Rattle.book_office_members.proofs.told_cards.card_of.Goals as goal

pub returns-in-Ok : goal.returns-in-Ok
returns-in-Ok c =
    let name = c.args.name in
    let text = c.args.text.now in
    let card = c.in-Ok.card in
    let read = c.in-Ok.ensures.card in
    let none = card_complete text read.0 in
    let told : CardRef = record { name = name; uid = uid_in card; members = members_in card } in
    let same : told ≡ card_of name text =
    (λ i. record { name = name; uid = uid_in (read.1 i); members = members_in (read.1 i) })
    ∙ sym (λ i. record { name = name; uid = uid_unless (none i) text; members = members_unless (none i) text }) in
    IfOk-weaker c.card_read.result (λ is. is ≡ told) (λ is. is ≡ card_of name text) (λ is e. e ∙ same) c.card_read.ensures
