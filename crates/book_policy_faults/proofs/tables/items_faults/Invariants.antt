use Rattle.std.proofs.Common.{◌≡◌, drop}
use Rattle.toml.specs.View.{items_view}
use Rattle.book_policy_faults.specs.Placing.{noted}
use Rattle.book_policy_faults.specs.Tables.{items_faults}
use Rattle.book_policy_faults.proofs.tables.items_faults.Given as goal

abbrev pub invariant-loop-value : goal.invariant-loop-value
invariant-loop-value l =
    noted l.faults (items_faults l.named.paths l.rule l.spot l.item (items_view (drop l.value-index l.values)))
    ≡ noted l.initial.faults (items_faults l.named.paths l.rule l.spot 1 (items_view l.values))
