use Rattle.book_office.proofs.Common.{◌≡◌, ◌++◌, length, map, into_iter_items, into_iter_len}
use Rattle.book_office.specs.Levels.{level_at}
use Rattle.book_office.proofs.reads.lists.Given as goal

-- the levels so far and those to come are those of the path
abbrev pub invariant-loop-path : goal.invariant-loop-path
invariant-loop-path l = record {
  parts : l.levels.items ++ map (level_at l.office) (into_iter_items l.path-iterator) ≡ map (level_at l.office) (into_iter_items l.initial.path-iterator);
  count : into_iter_len l.path-iterator ≡ length (into_iter_items l.path-iterator);
}
