use Rattle.book_office_cache.proofs.Common.{◌≡◌, ap, ◌∙◌, level_at, Level, Office}
use Rattle.book_office_cache.proofs.Readings.{learns_weaker, read_kept}
use Rattle.book_office_cache.proofs.cached.Cached.card.Goals as goal

pub returns : goal.returns
returns g c =
    read_kept (g.K.Keeper.standing c.args.self.now.keeper) (g.K.Keeper.standing c.level.new.self) (g.R.Memories.held c.args.self.now.remembered) (g.R.Memories.held c.keep_bare.new.self) c.in_ok-level.level
    (λ (o : Office) (level : Level). level ≡ level_at o c.args.path.now) c.in_ok-level.ensures (learns_weaker (λ o is. is ∙ ap (level_at o) c.requires) c.keep_bare.ensures)
