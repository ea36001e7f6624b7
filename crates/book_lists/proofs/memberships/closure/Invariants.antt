use Rattle.book_lists.proofs.Reaching.{Reaches}
use Rattle.book_lists.proofs.memberships.closure.Given as goal

-- the closure so far, without those to come
abbrev pub invariant-loop-member : goal.invariant-loop-member
invariant-loop-member l = record {
  next : (goal.iterator-loop-member).can_next l.member-iterator;
  finite : (goal.iterator-loop-member).is_finite l.member-iterator;
  reaches : Reaches l.pairs l.member-iterator l.reach;
}
