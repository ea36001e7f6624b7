use Rattle.std.proofs.Common.{map}
use Rattle.std.specs.String.{string_bytes}
use Rattle.sqlite.specs.Held.{state}
use Rattle.book_desk_keeping.proofs.RestoredDumps.{restores_made}
use Rattle.book_desk_keeping.proofs.restores.restore_made.Goals as goal

pub returns-in-Ok-clause-made : goal.returns-in-Ok-clause-made
returns-in-Ok-clause-made g c =
    restores_made (g.K.Keeper.standing c.args.store.now) (g.K.Keeper.standing c.restored_of.new.store) (g.L.Keeper.standing c.args.backup.now)
    (g.L.Keeper.standing c.restored_of.new.backup) (map string_bytes c.args.texts.now) (state g.U.Store) c.args.fresh (g.W.Write.contents c.args.writer.now)
    (g.W.Write.contents c.make.new.writer) c.make.result c.in-Ok.changed c.in-Ok.ensures.made c.make.ensures.made c.make.ensures.empty c.make.ensures.written
