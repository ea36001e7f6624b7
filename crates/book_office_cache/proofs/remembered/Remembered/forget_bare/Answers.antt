use Rattle.book_office_cache.proofs.Kept.{no_bare_remembered}
use Rattle.book_office_cache.proofs.remembered.Remembered.forget_bare.Goals as goal

pub returns : goal.returns
returns c = λ o remembers. no_bare_remembered c.args.self.now o remembers c.new.result 0 c.new.ensures
