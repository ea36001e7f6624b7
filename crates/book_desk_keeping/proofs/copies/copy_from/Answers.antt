use Rattle.book_desk_keeping.proofs.Common.{subst, sym}
use Rattle.sqlite.specs.Held.{state}
use Rattle.sqlite.specs.State.{HasCleanDisk}
use Rattle.book_dumps_loading.specs.Loading.{StandsForText}
use Rattle.book_dumps_reading.specs.Dumped.{dumped_text}
use Rattle.book_desk_keeping.proofs.copies.copy_from.Goals as goal

pub returns-in-Ok-clause-made : goal.returns-in-Ok-clause-made
returns-in-Ok-clause-made g c = λ clean.
    subst (λ k. StandsForText (state g.T.Store k) (dumped_text c.args.dumped.now)) (sym c.release.ensures)
    (c.in-Ok.ensures.stands (subst (λ k. HasCleanDisk (state g.T.Store k)) c.release.ensures clean))
