use Rattle.book_machine.proofs.Common.{◌≡◌, take}
use Rattle.book_machine.proofs.finding.copy_of.Given as goal

-- the properties so far
abbrev pub invariant-loop-property : goal.invariant-loop-property
invariant-loop-property l = l.copy.items ≡ take l.property-index l.properties
