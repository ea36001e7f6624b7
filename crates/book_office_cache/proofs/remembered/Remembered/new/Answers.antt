use Rattle.book_office_cache.proofs.Kept.{nothing_remembered}
use Rattle.book_office_cache.proofs.remembered.Remembered.new.Goals as goal

pub returns : goal.returns
returns c =
    nothing_remembered c.new.result c.new-2.result c.new-3.result c.new-4.result c.new-5.result c.new-6.result c.new-7.result
    c.new.ensures c.new-2.ensures c.new-3.ensures c.new-4.ensures c.new-5.ensures c.new-6.ensures c.new-7.ensures
