use Rattle.std.proofs.Common.{◌≡◌, ◌++◌, length, filter}
use Rattle.std.specs.String.{string_bytes}
use Rattle.std.specs.Vec.Iter.{into_iter_items, into_iter_len}
use Rattle.book_dumps_changes.specs.Leavers.{is_other, told_members}
use Rattle.book_dumps_changes.proofs.leavers.release_members.Given as goal

-- what became of the members so far and what becomes of those to come is what becomes of all, and so is what is told
abbrev pub invariant-loop-member : goal.invariant-loop-member
invariant-loop-member l = record {
  parts : l.after ++ filter (is_other l.person) (into_iter_items l.member-iterator) ≡ filter (is_other l.person) (into_iter_items l.initial.member-iterator);
  told : string_bytes l.told ++ told_members l.person l.path (into_iter_items l.member-iterator)
      ≡ string_bytes l.initial.told ++ told_members l.person l.path (into_iter_items l.initial.member-iterator);
  count : into_iter_len l.member-iterator ≡ length (into_iter_items l.member-iterator);
}
