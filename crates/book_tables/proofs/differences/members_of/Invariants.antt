use Rattle.book_tables.proofs.Common.{string_bytes}
use Rattle.book_tables.proofs.FoundMembers.{AreFound}
use Rattle.book_tables.proofs.differences.members_of.Given as goal

-- the members so far and those to come are all
abbrev pub invariant-pairs : goal.invariant-pairs
invariant-pairs l = AreFound string_bytes l.group l.pairs l.members.items l.pair-index
