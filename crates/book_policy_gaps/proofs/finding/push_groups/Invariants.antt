use Rattle.book_policy_gaps.proofs.Common.{◌≡◌, ◌++◌, take}
use Rattle.book_policy_gaps.specs.Finding.{group_paths}
use Rattle.book_policy_gaps.proofs.finding.push_groups.Given as goal

-- those so far are told
abbrev pub invariant-loop-group : goal.invariant-loop-group
invariant-loop-group l = l.paths.items ≡ l.fn.paths.items ++ group_paths (take l.group-index l.groups)
