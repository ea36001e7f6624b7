use Rattle.book_questions_stays.proofs.Common.{◌≡◌, gathered, map, take}
use Rattle.std.proofs.Common.{filter}
use Rattle.book_questions_stays.specs.Stays.{member_block, member_stays}
use Rattle.book_questions_stays.proofs.telling.add_members.Given as goal

-- the memberships so far
abbrev pub invariant-loop-membership : goal.invariant-loop-membership
invariant-loop-membership l = l.blocks ≡ gathered l.fn.blocks (map member_block (filter (member_stays l.policy) (take l.membership-index l.list)))
