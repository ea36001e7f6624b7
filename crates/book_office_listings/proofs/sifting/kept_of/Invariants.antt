use Rattle.book_office_listings.proofs.Common.{take, AppliesAs, entries_of_levels}
use Rattle.book_office_listings.proofs.sifting.kept_of.Given as goal

-- the levels so far are sifted
abbrev pub invariant-loop-level : goal.invariant-loop-level
invariant-loop-level l = AppliesAs l.circle (entries_of_levels l.protected (take l.level-index l.levels)) l.kept.items
