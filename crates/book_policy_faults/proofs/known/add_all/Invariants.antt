use Rattle.std.proofs.Common.{◌≡◌, ◌+◌, drop}
use Rattle.toml.specs.View.{items_view}
use Rattle.book_policy_faults.specs.Known.{with_paths}
use Rattle.book_policy_faults.proofs.known.add_all.Given as goal

-- the paths so far and those to come are all
abbrev pub invariant-loop-value : goal.invariant-loop-value
invariant-loop-value l = record {
  counted : l.number ≡ l.value-index + 1;
  same : with_paths l.paths l.kind l.number (items_view (drop l.value-index l.values)) ≡ with_paths l.initial.paths l.kind 1 (items_view l.values);
}
