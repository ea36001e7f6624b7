use Rattle.book_tables_opening.proofs.Common.{◌≡◌, ◌≤◌, take, unwrap_or, count_by, Key, same_key}
use Rattle.std.specs.BTreeMap.{get, IsOrdered}
use Rattle.book_tables_opening.proofs.Counts.{key_cmp}
use Rattle.book_tables_opening.proofs.counting.are_at_most.Given as goal

-- the counts are those of the keys so far, and none is above the limit
abbrev pub invariant-loop-key : goal.invariant-loop-key
invariant-loop-key l = record {
  ordered : IsOrdered key_cmp l.counts;
  counted : (k : Key) → unwrap_or (get key_cmp l.counts k) 0 ≡ count_by (same_key k) (take l.key-index l.keys);
  few : (k : Key) → count_by (same_key k) (take l.key-index l.keys) ≤ l.limit;
}
