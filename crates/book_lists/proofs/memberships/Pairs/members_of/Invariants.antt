use Rattle.book_lists.specs.Memberships.{members_of}
use Rattle.book_lists.proofs.MembersOf.{Gathers}
use Rattle.book_lists.proofs.memberships.Pairs.members_of.Given as goal

-- the pairs so far and those to come are all of the group
abbrev pub invariant-loop-member : goal.invariant-loop-member
invariant-loop-member l = record {
  next : (goal.iterator-loop-member).can_next l.member-iterator;
  finite : (goal.iterator-loop-member).is_finite l.member-iterator;
  gathers : Gathers l.member-iterator l.group l.pairs (members_of l.self l.group);
}
