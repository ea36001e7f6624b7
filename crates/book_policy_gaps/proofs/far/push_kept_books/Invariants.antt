use Rattle.book_policy_gaps.proofs.Common.{◌≡◌, ◌++◌, take}
use Rattle.book_policy_gaps.specs.Far.{kept_gaps}
use Rattle.book_policy_gaps.proofs.far.push_kept_books.Given as goal

-- those so far are told
abbrev pub invariant-loop-book : goal.invariant-loop-book
invariant-loop-book l = l.gaps.items ≡ l.fn.gaps.items ++ kept_gaps (take l.book-index l.books)
