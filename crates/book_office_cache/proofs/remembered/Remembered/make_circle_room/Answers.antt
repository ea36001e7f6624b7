use Rattle.book_office_cache.proofs.Kept.{no_circles_remembered}
use Rattle.book_office_cache.proofs.remembered.Remembered.make_circle_room.Goals as goal

pub returns-then-len-ge-MAX_CIRCLES : goal.returns-then-len-ge-MAX_CIRCLES
returns-then-len-ge-MAX_CIRCLES c = λ o remembers. no_circles_remembered c.args.self.now o remembers c.new.result c.new.ensures
