use Rattle.std.proofs.Common.{◌≡◌, ◌+◌, drop}
use Rattle.toml.specs.View.{items_view}
use Rattle.book_policy_faults.specs.Placing.{noted}
use Rattle.book_policy_faults.specs.Tables.{rows_faults}
use Rattle.book_policy_faults.proofs.tables.rows_faults.Given as goal

abbrev pub invariant-loop-value : goal.invariant-loop-value
invariant-loop-value l = record {
  counted : l.number ≡ l.value-index + 1;
  same : noted l.faults (rows_faults l.named l.kind l.number (items_view (drop l.value-index l.values)))
      ≡ noted l.initial.faults (rows_faults l.named l.kind 1 (items_view l.values));
}
