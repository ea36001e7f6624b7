use Rattle.book_office_cache.proofs.Common.{◌≡◌, rules}
use Rattle.std.proofs.Common.{true}
use Rattle.std.specs.List.{list_all}
use Rattle.book_office_cache.specs.Remembering.{has_no_list}
use Rattle.book_office_cache.proofs.ListedCards.{none_listed}
use Rattle.book_office_cache.proofs.remembered.Remembered.keep_cards.Goals as goal

pub returns-then-have_no_lists : goal.returns-then-have_no_lists
returns-then-have_no_lists c = λ o remembers told.
    let none : list_all has_no_list c.args.cards.now ≡ true = search rules in
    c.keep_bare_book.ensures o remembers (none_listed o c.args.book.now c.args.cards.now told none)
