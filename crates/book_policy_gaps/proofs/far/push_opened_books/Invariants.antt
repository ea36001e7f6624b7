use Rattle.book_policy_gaps.proofs.Common.{◌≡◌, ◌++◌, take}
use Rattle.book_policy_gaps.specs.Far.{opened_gaps}
use Rattle.book_policy_gaps.proofs.far.push_opened_books.Given as goal

-- those so far are told
abbrev pub invariant-loop-book : goal.invariant-loop-book
invariant-loop-book l = l.gaps.items ≡ l.fn.gaps.items ++ opened_gaps l.everybody (take l.book-index l.books)
