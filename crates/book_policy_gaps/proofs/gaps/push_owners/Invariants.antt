use Rattle.book_policy_gaps.proofs.Common.{◌≡◌, ◌++◌, take}
use Rattle.book_policy_gaps.specs.Gaps.{owner_gaps}
use Rattle.book_policy_gaps.proofs.gaps.push_owners.Given as goal

-- those so far are told
abbrev pub invariant-loop-book : goal.invariant-loop-book
invariant-loop-book l = l.gaps.items ≡ l.fn.gaps.items ++ owner_gaps l.persons (take l.book-index l.books)
