use Rattle.std.proofs.Common.{◌≡◌, take, map}
use Rattle.book_lists.specs.declared.memberships.Membership.{Membership}
use Rattle.book_policy_openings.proofs.steps.members_among.Given as goal

abbrev pub invariant-loop-pair : goal.invariant-loop-pair
invariant-loop-pair l = l.members.items ≡ map (λ (m : Membership). m.member) (take l.pair-index l.pairs)
