use Rattle.book_policy.proofs.Privileges.{Follows}
use Rattle.book_policy.proofs.entries.leaves_of.Given as goal

-- the leaves of the names so far and those to come are the leaves of all
abbrev pub invariant-loop-name : goal.invariant-loop-name
invariant-loop-name l = Follows l.names l.name-index l.set
