use Rattle.std.proofs.Common.{◌≤◌, length}
use Rattle.book_lists_reach.proofs.Words.{JoinedTo}
use Rattle.book_lists_reach.proofs.bits.Bits.add_all.Given as goal

-- the words before i have the numbers of both
abbrev pub invariant-loop-i : goal.invariant-loop-i
invariant-loop-i l = record {
  long : l.count ≤ length l.self-inside.words.items;
  joined : JoinedTo l.i l.fn.self l.other l.self-inside.words.items;
}
