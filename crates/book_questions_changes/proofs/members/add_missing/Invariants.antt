use Rattle.book_questions_changes.proofs.Common.{◌≡◌, gathered, map, take}
use Rattle.book_questions_changes.specs.Members.{missing_in, signed_block}
use Rattle.book_questions_changes.proofs.members.add_missing.Given as goal

-- the memberships so far
abbrev pub invariant-loop-membership : goal.invariant-loop-membership
invariant-loop-membership l = l.blocks ≡ gathered l.fn.blocks (map (signed_block l.sign) (missing_in l.others (take l.membership-index l.list)))
