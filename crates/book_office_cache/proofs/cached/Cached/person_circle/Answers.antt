use Rattle.book_office_cache.proofs.Common.{◌≡◌, Standing, Office}
use Rattle.book_lists.specs.Callers.{IsCircle}
use Rattle.book_lists.specs.Circles.{CircleOf}
use Rattle.book_lists.specs.Principals.{person_path}
use Rattle.book_lists.specs.declared.circles.Caller.TheVariants.{Known}
use Rattle.book_office_cache.proofs.Readings.{read_kept}
use Rattle.book_office_cache.proofs.cached.Cached.person_circle.Goals as goal

pub returns : goal.returns
returns g c =
    let old : Standing = g.K.Keeper.standing c.args.self.now.keeper in
    let new : Standing = g.K.Keeper.standing c.circle-2.new.self in
    let caller = c.args.caller.now in
    let known : caller ≡ Known (person_path c.args.name.now) = c.requires in
    let circle = c.in_ok-circle-2.circle in
    read_kept old new (g.R.Memories.held c.args.self.now.remembered) (g.R.Memories.held c.keep_circle.new.self) circle (λ (o : Office) (circle : CircleOf). IsCircle o.pairs caller circle) c.in_ok-circle-2.ensures (rw known c.keep_circle.ensures)
