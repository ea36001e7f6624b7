use Rattle.std.proofs.Common.{◌≡◌, length}
use Rattle.std.specs.Vec.Iter.{into_iter_items, into_iter_len}
use Rattle.book_dumps_restoring.specs.Standing.{put_each}
use Rattle.book_dumps_restoring.proofs.standing.placed.Given as goal

-- the lines so far with those to come are all
abbrev pub invariant-loop-line : goal.invariant-loop-line
invariant-loop-line l = record {
  parts : put_each l.standing (into_iter_items l.line-iterator) ≡ put_each l.initial.standing (into_iter_items l.initial.line-iterator);
  count : into_iter_len l.line-iterator ≡ length (into_iter_items l.line-iterator);
}
