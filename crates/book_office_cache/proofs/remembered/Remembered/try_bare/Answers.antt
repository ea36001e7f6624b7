use Rattle.book_office_cache.proofs.Common.{◌≡◌, rules, level_at, AreBare, bare_level}
use Rattle.book_office_values.specs.declared.paths.Path.TheVariants as path
use Rattle.book_office_cache.proofs.Kept.{bare_remembered, card_bare}
use Rattle.book_office_cache.proofs.remembered.Remembered.try_bare.Goals as goal

pub returns : goal.returns
returns c = λ o remembers is.
    let book : c.in_ok-name.name ≡ c.args.book.now = search rules in
    let card : c.in_ok-key.key ≡ c.args.card.now = search rules in
    let before = c.take_bare-cards.ensures.cards o remembers in
    let bare : bare_level (path.Card c.args.book.now c.in_ok-key.key) ≡ level_at o (path.Card c.args.book.now c.in_ok-key.key) = rw card is in
    let cards : AreBare o c.args.book.now c.insert.new.self = rw c.in_ok-insert.ensures.ok (card_bare o c.args.book.now c.in_ok-key.key c.take_bare-cards.result _ before bare) in
    rw c.in_ok-insert-2.ensures.ok
    (bare_remembered c.take_bare-cards.new.self o (c.take_bare-cards.ensures.remembers o remembers) c.in_ok-name.name c.insert.new.self c.saturating_add-self.result (rw book cards))
