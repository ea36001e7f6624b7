use Rattle.std.proofs.Common.{sym, subst}
use Rattle.book_office_cache.proofs.Common.{Remembered, Remembers}
use Rattle.book_office_cache.proofs.remembered.Remembered.forget.Goals as goal

pub returns : goal.returns
returns c = λ o. subst (λ (r : Remembered). Remembers r o) (sym c.replace.ensures.after) (c.new.ensures o)
