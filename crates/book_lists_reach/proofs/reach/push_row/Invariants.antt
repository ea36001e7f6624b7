use Rattle.std.proofs.Common.{◌≡◌, ◌++◌, [], take, slice_index_or}
use Rattle.book_lists_reach.specs.Pairs.{bit_alone, row_by}
use Rattle.book_lists_reach.proofs.reach.push_row.Given as goal

-- the pairs with the members so far
abbrev pub invariant-loop-j : goal.invariant-loop-j
invariant-loop-j l = l.list.items ≡ l.fn.list.items ++ row_by (take l.j l.principals) (slice_index_or l.principals l.fn.i []) (bit_alone l.fn.rows l.others l.places l.fn.i)
