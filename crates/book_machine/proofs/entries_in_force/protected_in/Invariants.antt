use Rattle.book_machine.proofs.Common.{◌≡◌, ◌++◌, length, flat_map, Level}
use Rattle.std.specs.Vec.Iter.{into_iter_items, into_iter_len}
use Rattle.book_machine.proofs.entries_in_force.protected_in.Given as goal

-- the entries so far and those to come are those of all levels
abbrev pub invariant-loop-level : goal.invariant-loop-level
invariant-loop-level l = record {
  entries : l.entries.items ++ flat_map (λ (level : Level). level.protected) (into_iter_items l.level-iterator)
      ≡ flat_map (λ (level : Level). level.protected) (into_iter_items l.initial.level-iterator);
  count : into_iter_len l.level-iterator ≡ length (into_iter_items l.level-iterator);
}
