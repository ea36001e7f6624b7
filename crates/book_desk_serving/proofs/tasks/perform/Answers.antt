use Rattle.book_desk_serving.proofs.Common.{Keeps-refl}
use Rattle.book_desk_app.proofs.Ending.{ends}
use Rattle.book_desk_serving.proofs.tasks.perform.Goals as goal

pub returns-in-Import-clause-ends : goal.returns-in-Import-clause-ends
returns-in-Import-clause-ends g c =
    rw c.in-Import.is
    (ends _ _ c.import-outcome.result c.ended.result c.import-outcome.ensures.imported c.import-outcome.ensures.failed c.ended.ensures.done c.ended.ensures.failed, Keeps-refl _)
