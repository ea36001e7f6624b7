use Rattle.book_machine.proofs.Common.{◌≡◌, length}
use Rattle.book_machine.specs.Finding.{are_different}
use Rattle.book_machine.proofs.finding.are_different.Given as goal

-- none of the earlier properties is asked for again
abbrev pub invariant-loop-property : goal.invariant-loop-property
invariant-loop-property l = are_different l.rest ≡ are_different l.properties

abbrev pub decreases-loop-property : goal.decreases-loop-property
decreases-loop-property l = length l.rest
