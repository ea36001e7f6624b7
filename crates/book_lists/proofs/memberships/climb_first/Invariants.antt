use Rattle.book_lists.proofs.Common.{pairs_in}
use Rattle.book_lists.specs.PrincipalSets.{Grows}
use Rattle.book_lists.proofs.memberships.climb_first.Given as goal

abbrev pub invariant-steps : goal.invariant-steps
invariant-steps l = Grows (pairs_in l.groups.entries) l.fn.reach l.reach
