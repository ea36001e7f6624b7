use Rattle.std.proofs.Common.{◌≡◌}
use Rattle.toml.specs.View.{members_view}
use Rattle.book_policy_faults.specs.Placing.{noted}
use Rattle.book_policy_faults.specs.Tables.{unknown_keys}
use Rattle.book_policy_faults.proofs.tables.unknown_keys.Given as goal

abbrev pub invariant-loop-key : goal.invariant-loop-key
invariant-loop-key l = record {
  next : (goal.iterator-loop-key).can_next l.key-iterator;
  finite : (goal.iterator-loop-key).is_finite l.key-iterator;
  same : noted l.faults (unknown_keys l.kind l.number l.item (members_view l.key-iterator))
      ≡ noted l.initial.faults (unknown_keys l.kind l.number 1 (members_view l.table.entries));
}
