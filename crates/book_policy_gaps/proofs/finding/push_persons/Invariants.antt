use Rattle.book_policy_gaps.proofs.Common.{◌≡◌, ◌++◌, take}
use Rattle.book_policy_gaps.specs.Finding.{person_paths}
use Rattle.book_policy_gaps.proofs.finding.push_persons.Given as goal

-- those so far are told
abbrev pub invariant-loop-person : goal.invariant-loop-person
invariant-loop-person l = l.paths.items ≡ l.fn.paths.items ++ person_paths (take l.person-index l.persons)
