use Rattle.std.proofs.Common.{ap, ◌∙◌}
use Rattle.std.specs.FinSet as set
use Rattle.book_lists.proofs.PathSets.{updated_is_insert}
use Rattle.book_tables.proofs.searching.Met.insert.Goals as goal

pub returns : goal.returns
returns c =
    updated_is_insert c.self.inside.tree.keys c.insert.new.self.keys c.args.principal c.in_ok-insert.ensures.updates.0
    ∙ ap (λ s. set.insert s c.args.principal) c.self.view_is
