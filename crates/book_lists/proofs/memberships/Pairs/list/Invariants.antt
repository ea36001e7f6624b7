use Rattle.book_lists.proofs.Common.{◌≡◌, ◌++◌, flat_map, pairs_of, set_of}
use Rattle.book_lists.proofs.memberships.Pairs.list.Given as goal

-- the pairs so far and those to come are all pairs
abbrev pub invariant-loop-member : goal.invariant-loop-member
invariant-loop-member l = record {
  next : (goal.iterator-loop-member).can_next l.member-iterator;
  finite : (goal.iterator-loop-member).is_finite l.member-iterator;
  parts : set_of (l.list.items ++ flat_map pairs_of l.member-iterator) ≡ set_of (l.initial.list.items ++ flat_map pairs_of l.initial.member-iterator);
}
