use Rattle.std.proofs.Common.{take}
use Rattle.book_tables.proofs.NearbyPairs.{AreMet}
use Rattle.book_tables.proofs.nearby.met_among.Given as goal

-- of the members so far those that were met are kept
abbrev pub invariant-members : goal.invariant-members
invariant-members l = AreMet (take l.member-index l.members) l.met l.kept.items
