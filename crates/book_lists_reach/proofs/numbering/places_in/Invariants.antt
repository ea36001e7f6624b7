use Rattle.std.proofs.Common.{take}
use Rattle.book_lists_reach.specs.Numbering.{ArePlaces}
use Rattle.book_lists_reach.proofs.numbering.places_in.Given as goal

-- the places of the principals so far
abbrev pub invariant-loop-principal : goal.invariant-loop-principal
invariant-loop-principal l = ArePlaces l.others (take l.principal-index l.principals) l.places.items
