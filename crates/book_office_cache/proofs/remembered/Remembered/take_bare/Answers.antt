use Rattle.book_office_cache.proofs.Kept.{bare_removed, no_cards_bare}
use Rattle.book_office_cache.proofs.remembered.Remembered.take_bare.Goals as goal

pub returns-in-Some-clause-remembers : goal.returns-in-Some-clause-remembers
returns-in-Some-clause-remembers c = λ o remembers. rw c.in-Some.ensures.removed (bare_removed c.args.self.now o remembers c.args.book.now)

pub returns-in-None-clause-cards : goal.returns-in-None-clause-cards
returns-in-None-clause-cards c = λ o remembers. no_cards_bare o c.args.book.now c.new.result c.new.ensures

pub returns-in-None-clause-remembers : goal.returns-in-None-clause-remembers
returns-in-None-clause-remembers c = λ o remembers. rw c.in-None.ensures.removed (bare_removed c.args.self.now o remembers c.args.book.now)
