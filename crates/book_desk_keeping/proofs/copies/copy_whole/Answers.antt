use Rattle.book_desk_keeping.proofs.Common.{subst, sym}
use Rattle.sqlite.specs.Held.{state}
use Rattle.sqlite.specs.State.{HasCleanDisk}
use Rattle.book_dumps_loading.specs.Loading.{IsCopy}
use Rattle.book_desk_keeping.proofs.copies.copy_whole.Goals as goal

pub returns-in-Ok-clause-made : goal.returns-in-Ok-clause-made
returns-in-Ok-clause-made g c = λ honest clean.
    subst (λ k. IsCopy (g.K.Keeper.standing c.args.keeper.now) (state g.T.Store k)) (sym c.release.ensures)
    (c.in-Ok.ensures.copied honest (subst (λ k. HasCleanDisk (state g.T.Store k)) c.release.ensures clean))
