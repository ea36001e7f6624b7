use Rattle.book_policy_gaps.proofs.Common.{take}
use Rattle.book_office_listings.specs.Scanning.{IsWalk}
use Rattle.book_policy_gaps.proofs.places.walk.Given as goal

-- the entries so far are gone over
abbrev pub invariant-loop-entry : goal.invariant-loop-entry
invariant-loop-entry l = IsWalk (take l.entry-index l.list) l.circle l.here l.fn.set l.deciders
