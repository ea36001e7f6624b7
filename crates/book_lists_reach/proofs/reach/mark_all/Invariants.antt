use Rattle.std.proofs.Common.{◌≡◌, ◌||◌, take, vec_len}
use Rattle.std.specs.FinSet as set
use Rattle.book_lists.specs.declared.memberships.Membership.{Membership}
use Rattle.book_lists_reach.specs.Numbering.{is_listed}
use Rattle.book_lists_reach.specs.Pairs.{pairs_in_rows}
use Rattle.book_lists_reach.proofs.reach.mark_all.Given as goal

-- the pairs so far are added
abbrev pub invariant-loop-pair : goal.invariant-loop-pair
invariant-loop-pair l = record {
  len : vec_len l.rows ≡ vec_len l.fn.rows;
  marked : (m : Membership) → set.contains (pairs_in_rows l.principals l.rows.items) m ≡ (is_listed (take l.pair-index l.list) m || set.contains (pairs_in_rows l.principals l.fn.rows.items) m);
}
