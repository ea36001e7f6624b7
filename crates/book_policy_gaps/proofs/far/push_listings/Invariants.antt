use Rattle.book_policy_gaps.proofs.Common.{◌≡◌, ◌++◌, take}
use Rattle.book_policy_gaps.specs.Far.{listing_gaps}
use Rattle.book_policy_gaps.proofs.far.push_listings.Given as goal

-- those so far are told
abbrev pub invariant-loop-person : goal.invariant-loop-person
invariant-loop-person l = l.gaps.items ≡ l.fn.gaps.items ++ listing_gaps l.home l.books (take l.person-index l.persons)
