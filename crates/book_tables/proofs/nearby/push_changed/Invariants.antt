use Rattle.std.proofs.Common.{take}
use Rattle.book_tables.specs.Nearby.{PushesChanged}
use Rattle.book_tables.proofs.nearby.push_changed.Given as goal

-- the members of the pairs so far that are not among the others were added
abbrev pub invariant-pairs : goal.invariant-pairs
invariant-pairs l = PushesChanged (take l.pair-index l.list) l.others l.fn.starts.items l.starts.items
