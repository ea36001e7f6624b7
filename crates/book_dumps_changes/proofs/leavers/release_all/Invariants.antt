use Rattle.std.proofs.Common.{◌≡◌, ◌++◌, length}
use Rattle.std.specs.List.{flat_map}
use Rattle.std.specs.String.{string_bytes}
use Rattle.std.specs.Vec.Iter.{into_iter_items, into_iter_len}
use Rattle.book_dumps_changes.specs.Leavers.{lines_without, told_leaving}
use Rattle.book_dumps_changes.proofs.leavers.release_all.Given as goal

-- what became of the lines so far and what becomes of those to come is what becomes of all, and so is what is told
abbrev pub invariant-loop-line : goal.invariant-loop-line
invariant-loop-line l = record {
  parts : l.after ++ flat_map (lines_without l.person l.heir) (into_iter_items l.line-iterator) ≡ flat_map (lines_without l.person l.heir) (into_iter_items l.initial.line-iterator);
  told : string_bytes l.told ++ told_leaving l.person l.heir (into_iter_items l.line-iterator)
      ≡ string_bytes l.initial.told ++ told_leaving l.person l.heir (into_iter_items l.initial.line-iterator);
  count : into_iter_len l.line-iterator ≡ length (into_iter_items l.line-iterator);
}
