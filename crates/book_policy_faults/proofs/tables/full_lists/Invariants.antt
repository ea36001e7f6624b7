use Rattle.std.proofs.Common.{◌≡◌, ◌+◌, [], drop}
use Rattle.std.specs.FinMap.{empty}
use Rattle.toml.specs.View.{items_view}
use Rattle.book_policy_faults.specs.Tables.{counted_all}
use Rattle.book_policy_faults.proofs.tables.full_lists.Given as goal

abbrev pub invariant-loop-value : goal.invariant-loop-value
invariant-loop-value l = record {
  counted : l.number ≡ l.value-index + 1;
  same : counted_all l.paths l.counts l.number (items_view (drop l.value-index l.values))
      ≡ counted_all l.paths (record { protected = empty; own = empty; full = [] }) 1 (items_view l.values);
}
