use Rattle.book_policy_gaps.proofs.Common.{◌≡◌, ◌++◌, take}
use Rattle.book_policy_gaps.specs.Gaps.{right_gaps}
use Rattle.book_policy_gaps.proofs.gaps.push_rights.Given as goal

-- those so far are told
abbrev pub invariant-loop-person : goal.invariant-loop-person
invariant-loop-person l = l.gaps.items ≡ l.fn.gaps.items ++ right_gaps l.books (take l.person-index l.persons)
