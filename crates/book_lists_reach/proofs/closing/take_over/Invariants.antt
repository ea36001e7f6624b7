use Rattle.std.proofs.Common.{◌≡◌, vec_len}
use Rattle.book_lists_reach.proofs.Through.{TakenBelow}
use Rattle.book_lists_reach.proofs.closing.take_over.Given as goal

-- the rows before i have taken it over
abbrev pub invariant-loop-i : goal.invariant-loop-i
invariant-loop-i l = record {
  len : vec_len l.rows ≡ vec_len l.fn.rows;
  taken : TakenBelow l.i l.number l.fn.rows.items l.rows.items;
}
