use Rattle.book_office_cache.proofs.Readings.{edit_failed, edit_made}
use Rattle.book_office_cache.proofs.cached.CachedKeeper.act.Goals as goal

pub returns-in-Ok : goal.returns-in-Ok
returns-in-Ok g c =
    edit_made (g.K.Keeper.standing c.args.self.now.keeper) (g.K.Keeper.standing c.act.new.self) (g.R.Memories.held c.args.self.now.remembered) (g.R.Memories.held c.follow.new.self) c.args.edit.now c.follow.ensures c.in-Ok.ensures

pub returns-in-Err : goal.returns-in-Err
returns-in-Err g c =
    edit_failed (g.K.Keeper.standing c.args.self.now.keeper) (g.K.Keeper.standing c.act.new.self) (g.R.Memories.held c.args.self.now.remembered) (g.R.Memories.held c.forget.new.self) c.in-Err.fault c.args.edit.now c.forget.ensures c.in-Err.ensures
