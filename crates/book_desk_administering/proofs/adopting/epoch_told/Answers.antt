use Rattle.book_desk_administering.proofs.Adoptions.{keeps_same}
use Rattle.book_desk_administering.proofs.adopting.epoch_told.Goals as goal

pub returns-in-Ok-clause-keeps : goal.returns-in-Ok-clause-keeps
returns-in-Ok-clause-keeps g c = keeps_same _
