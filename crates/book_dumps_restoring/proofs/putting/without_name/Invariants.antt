use Rattle.std.proofs.Common.{◌≡◌, ◌++◌, length, filter}
use Rattle.std.specs.Vec.Iter.{into_iter_items, into_iter_len}
use Rattle.book_dumps_restoring.specs.Putting.{is_other_name}
use Rattle.book_dumps_restoring.proofs.putting.without_name.Given as goal

-- the names so far without the one, and those to come without it, are all without it
abbrev pub invariant-loop-name : goal.invariant-loop-name
invariant-loop-name l = record {
  parts : l.after ++ filter (is_other_name l.card) (into_iter_items l.name-iterator) ≡ filter (is_other_name l.card) (into_iter_items l.initial.name-iterator);
  count : into_iter_len l.name-iterator ≡ length (into_iter_items l.name-iterator);
}
