use Rattle.book_office_cache.proofs.Kept.{no_bare_books_remembered}
use Rattle.book_office_cache.proofs.remembered.Remembered.make_bare_book_room.Goals as goal

pub returns-then-len-ge-MAX_BOOKS : goal.returns-then-len-ge-MAX_BOOKS
returns-then-len-ge-MAX_BOOKS c = λ o remembers. no_bare_books_remembered c.args.self.now o remembers c.new.result c.new.ensures
