use Rattle.book_policy_gaps.proofs.Common.{◌≡◌, ◌++◌, take}
use Rattle.book_policy_gaps.specs.Finding.{book_paths}
use Rattle.book_policy_gaps.proofs.finding.push_books.Given as goal

-- those so far are told
abbrev pub invariant-loop-book : goal.invariant-loop-book
invariant-loop-book l = l.paths.items ≡ l.fn.paths.items ++ book_paths (take l.book-index l.books)
