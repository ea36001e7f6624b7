use Rattle.book_office_cache.proofs.Common.{◌≡◌, Some, rules}
use Rattle.std.proofs.Common.{true, is_some}
use Rattle.std.specs.FinMap.{get}
use Rattle.book_office_cache.proofs.Kept.{all_bare, cards_taken}
use Rattle.book_office_cache.proofs.remembered.Remembered.is_bare.Goals as goal

pub returns-then-is_bare_book : goal.returns-then-is_bare_book
returns-then-is_bare_book c = λ o remembers _.
    let there : is_some (get c.args.self.now.bare_books c.args.book.now) ≡ true = search rules in
    all_bare c.args.self.now o remembers c.args.book.now there c.args.card.now

pub returns-in-Some : goal.returns-in-Some
returns-in-Some c = λ o remembers yes.
    let found : Some c.in-Some.cards.now ≡ get c.args.self.now.bare c.args.book.now = search rules in
    let there : is_some (get c.in-Some.cards.now c.args.card.now) ≡ true = search rules in
    cards_taken c.args.self.now o c.args.book.now c.in-Some.cards.now found remembers c.args.card.now there
