use Rattle.book_policy.proofs.Common.{◌≡◌, drop}
use Rattle.toml.specs.View.{items_view}
use Rattle.book_policy.specs.Shapes.{each, each_after}
use Rattle.book_policy.proofs.shapes.each_of.Given as goal

-- what those so far and those to come are read as is what all are
abbrev pub invariant-loop-value : goal.invariant-loop-value
invariant-loop-value g l = each_after g.T.FromValue.read l.parts.items (items_view (drop l.value-index l.values)) ≡ each g.T.FromValue.read (items_view l.values)
