use Rattle.book_dumps.proofs.Common.{◌≡◌, map, take}
use Rattle.book_lists.specs.declared.memberships.Membership.{Membership}
use Rattle.book_dumps.proofs.reading.members_among.Given as goal

-- the members of the pairs so far
abbrev pub invariant-loop-pair : goal.invariant-loop-pair
invariant-loop-pair l = l.members.items ≡ map (λ (m : Membership). m.member) (take l.pair-index l.pairs)
