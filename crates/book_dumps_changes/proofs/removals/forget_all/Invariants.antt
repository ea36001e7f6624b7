use Rattle.std.proofs.Common.{◌≡◌, ◌++◌, length, map}
use Rattle.std.specs.String.{string_bytes}
use Rattle.std.specs.Vec.Iter.{into_iter_items, into_iter_len}
use Rattle.book_dumps_changes.specs.Removals.{forgotten, told_removals}
use Rattle.book_dumps_changes.proofs.removals.forget_all.Given as goal

-- what became of the lines so far and what becomes of those to come is what becomes of all, and so is what is told
abbrev pub invariant-loop-line : goal.invariant-loop-line
invariant-loop-line l = record {
  parts : l.after.items ++ map forgotten (into_iter_items l.line-iterator) ≡ map forgotten (into_iter_items l.initial.line-iterator);
  told : string_bytes l.told ++ told_removals (into_iter_items l.line-iterator) ≡ string_bytes l.initial.told ++ told_removals (into_iter_items l.initial.line-iterator);
  count : into_iter_len l.line-iterator ≡ length (into_iter_items l.line-iterator);
}
