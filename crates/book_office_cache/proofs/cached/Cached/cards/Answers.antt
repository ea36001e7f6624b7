use Rattle.book_office_cache.proofs.Common.{◌≡◌, ap, ◌∙◌, Office}
use Rattle.std.proofs.Common.{List}
use Rattle.book_office.specs.Resources.{children_at}
use Rattle.book_office.specs.declared.nodes.Listed.{Listed}
use Rattle.book_office_cache.proofs.Readings.{learns_weaker, read_kept}
use Rattle.book_office_cache.proofs.cached.Cached.cards.Goals as goal

pub returns : goal.returns
returns g c =
    read_kept (g.K.Keeper.standing c.args.self.now.keeper) (g.K.Keeper.standing c.children.new.self) (g.R.Memories.held c.args.self.now.remembered) (g.R.Memories.held c.keep_cards.new.self) c.in_ok-cards.cards
    (λ (o : Office) (cards : List Listed). cards ≡ children_at o c.args.path.now) c.in_ok-cards.ensures (learns_weaker (λ o is. is ∙ ap (children_at o) c.requires) c.keep_cards.ensures)
