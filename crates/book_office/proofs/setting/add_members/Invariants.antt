use Rattle.book_office.proofs.Common.{◌≡◌}
use Rattle.std.proofs.Common.{drop}
use Rattle.std.specs.FinSet as set
use Rattle.book_office.proofs.GroupMembers.{members_added, pairs_of}
use Rattle.book_office.proofs.setting.add_members.Given as goal

-- the pairs so far with the members to come are those with all members
abbrev pub invariant-loop-member : goal.invariant-loop-member
invariant-loop-member l = members_added l.group l.pairs (drop l.member-index l.members) ≡ set.union l.initial.pairs (set.from_list (pairs_of l.group l.members))
