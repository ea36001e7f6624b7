use Rattle.book_office_cache.proofs.Common.{◌≡◌, Ok, rules, level_at, Level, Reads, Standing, Office}
use Rattle.book_office_values.specs.declared.paths.Path.TheVariants as paths
use Rattle.book_office_cache.proofs.Readings.{read_kept}
use Rattle.book_office_cache.proofs.cached.Cached.book.Goals as goal

pub returns : goal.returns
returns g c =
    let old : Standing = g.K.Keeper.standing c.args.self.now.keeper in
    let new : Standing = g.K.Keeper.standing c.level-found.new.self in
    let name : c.in_ok-clone.field-0 ≡ c.args.name.now = search rules in
    let read : Reads old new (Ok c.in_ok-level-2.level) (λ (o : Office) (level : Level). level ≡ level_at o (paths.Book c.args.name.now)) = rw name at c.in_ok-level-2.ensures in
    read_kept old new (g.R.Memories.held c.args.self.now.remembered) (g.R.Memories.held c.keep_book.new.self) c.in_ok-level-2.level (λ (o : Office) (level : Level). level ≡ level_at o (paths.Book c.args.name.now)) read c.keep_book.ensures
