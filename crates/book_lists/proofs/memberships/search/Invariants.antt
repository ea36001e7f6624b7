use Rattle.book_lists.proofs.Common.{◌+◌, map, length, pairs_in}
use Rattle.book_lists.proofs.Searches.{Searches, ahead}
use Rattle.book_lists.proofs.memberships.search.Given as goal

abbrev pub invariant-loop-member : goal.invariant-loop-member
invariant-loop-member l = Searches (pairs_in l.groups.entries) (map (λ w. w.now) l.fn.starts.items) l.found (map (λ w. w.now) l.work.items)

-- the groups still to be added to the work, and the work
abbrev pub decreases-loop-member : goal.decreases-loop-member
decreases-loop-member l = ahead l.groups.entries l.found + length l.work.items
