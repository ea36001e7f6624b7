use Rattle.book_office_cache.proofs.Common.{◌≡◌, level_at, Level, Office}
use Rattle.book_office_values.specs.declared.paths.Path.TheVariants as paths
use Rattle.book_office_cache.proofs.Readings.{read_kept}
use Rattle.book_office_cache.proofs.cached.Cached.root.Goals as goal

pub returns : goal.returns
returns g c =
    read_kept (g.K.Keeper.standing c.args.self.now.keeper) (g.K.Keeper.standing c.level.new.self) (g.R.Memories.held c.args.self.now.remembered) (g.R.Memories.held c.keep_root.new.self) c.in_ok-level-2.level
    (λ (o : Office) (level : Level). level ≡ level_at o paths.Root) c.in_ok-level-2.ensures c.keep_root.ensures
