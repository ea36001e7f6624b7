use Rattle.book_policy_gaps.proofs.Common.{◌≡◌, ◌++◌, take}
use Rattle.book_policy_gaps.specs.Gaps.{empty_gaps}
use Rattle.book_policy_gaps.proofs.gaps.push_empty_groups.Given as goal

-- those so far are told
abbrev pub invariant-loop-group : goal.invariant-loop-group
invariant-loop-group l = l.gaps.items ≡ l.fn.gaps.items ++ empty_gaps l.persons (take l.group-index l.groups)
