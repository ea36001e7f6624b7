use Rattle.std.proofs.Common.{◌≡◌, drop}
use Rattle.std.specs.FinMap.{empty}
use Rattle.toml.specs.View.{items_view}
use Rattle.book_policy_faults.specs.Tables.{seen_all}
use Rattle.book_policy_faults.proofs.tables.distinct.Given as goal

abbrev pub invariant-loop-value : goal.invariant-loop-value
invariant-loop-value l =
    seen_all l.paths l.seen (items_view (drop l.value-index l.values))
    ≡ seen_all l.paths (record { paths = empty; count = 0 }) (items_view l.values)
