use Rattle.std.proofs.Common.{take}
use Rattle.book_lists_reach.specs.Numbering.{HasEnds}
use Rattle.book_lists_reach.proofs.numbering.ends_of.Given as goal

-- the principals of the pairs so far
abbrev pub invariant-loop-pair : goal.invariant-loop-pair
invariant-loop-pair l = HasEnds (take l.pair-index l.list) l.ends.items
