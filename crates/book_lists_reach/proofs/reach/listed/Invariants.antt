use Rattle.std.proofs.Common.{◌≡◌, take}
use Rattle.book_lists_reach.specs.Pairs.{bit_alone, pairs_by}
use Rattle.book_lists_reach.proofs.reach.listed.Given as goal

-- the pairs of the groups so far
abbrev pub invariant-loop-i : goal.invariant-loop-i
invariant-loop-i l = l.list.items ≡ pairs_by l.principals (take l.i l.principals) (bit_alone l.rows l.others l.places)
