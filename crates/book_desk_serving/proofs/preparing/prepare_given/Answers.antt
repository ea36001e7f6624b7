use Rattle.book_desk_serving.proofs.Common.{refl}
use Rattle.book_desk_serving.proofs.preparing.prepare_given.Goals as goal

pub returns-in-Err-clause-refused : goal.returns-in-Err-clause-refused
returns-in-Err-clause-refused g c = rw c.in-Some.is (c.in-Err.left, refl, c.in-Err.ensures.refused)
