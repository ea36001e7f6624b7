use Rattle.std.proofs.Common.{refl}
use Rattle.book_office_cache.proofs.remembered.Remembered.forget_all_of.Goals as goal

pub returns : goal.returns
returns c = rw (c.remove.ensures.removed, c.forget_bare_of.ensures, c.forget_book.ensures) refl
