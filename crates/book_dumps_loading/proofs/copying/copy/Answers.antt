use Rattle.std.proofs.lemmas.Result.{IfOk-weaker}
use Rattle.sqlite.specs.Held.{state}
use Rattle.book_dumps_loading.proofs.ReadingBack.{copied}
use Rattle.book_dumps_loading.proofs.copying.copy.Goals as goal

pub returns-in-Ok-clause-copied : goal.returns-in-Ok-clause-copied
returns-in-Ok-clause-copied g c honest =
    IfOk-weaker c.load.result _ _
    (λ t h clean. copied (g.K.Keeper.standing c.args.keeper.now) (state g.S.Store t.connection) c.in-Ok.dumped c.dumps_are_exact.ensures (c.in-Ok.ensures.read.told honest) (h clean))
    c.load.ensures.stands
