use Rattle.book_office_audit.proofs.Common.{◌≡◌, drop, map, gathered}
use Rattle.book_office_audit.specs.Audits.{member_block}
use Rattle.book_office_audit.proofs.audits.add_members.Given as goal

-- the blocks so far with those to come are those with all
abbrev pub invariant-loop-membership : goal.invariant-loop-membership
invariant-loop-membership l = gathered l.blocks (map member_block (drop l.membership-index l.memberships)) ≡ gathered l.fn.blocks (map member_block l.memberships)
