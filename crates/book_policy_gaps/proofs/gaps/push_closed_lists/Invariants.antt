use Rattle.book_policy_gaps.proofs.Common.{◌≡◌, ◌++◌, take}
use Rattle.book_policy_gaps.specs.Gaps.{closed_gaps}
use Rattle.book_policy_gaps.proofs.gaps.push_closed_lists.Given as goal

-- those so far are told
abbrev pub invariant-loop-resource : goal.invariant-loop-resource
invariant-loop-resource l = l.gaps.items ≡ l.fn.gaps.items ++ closed_gaps (take l.resource-index l.judged)
