-- Removed names that are forgotten.
use Rattle.std.specs.Prelude.{ℕ, List, [], ◌∷◌, ◌++◌, map, codes, decimal, length}
use Rattle.std.specs.List.{flat_map}
use Rattle.book_dumps.specs.declared.lines.Line.{Line}
use Rattle.book_dumps.specs.declared.lines.Removed.{Removed}
use Rattle.book_dumps_reading.specs.declared.dumped.Dumped.{Dumped}
use Rattle.book_office_values.specs.Paths.{path_text}
use Rattle.book_office_values.specs.declared.paths.Path.{Path}
use Rattle.book_dumps_changes.specs.Changing.{raised}
use Rattle.book_dumps_changes.specs.declared.changed.Changed.{Changed}

-- a resource without removed names, and else as it was
abbrev pub forgotten : Line → Line
forgotten line = record line { removed = [] }

-- removed PATH N
abbrev pub removed_line : Path → List Removed → List ℕ
removed_line at [] = []
removed_line at (name ∷ names) = codes "removed " ++ (path_text at ++ (codes " " ++ (decimal (length (name ∷ names)) ++ codes "\n")))

-- what is told of a resource: how many removed names it had, if it had one
abbrev pub told_forgetting : Line → List ℕ
told_forgetting line = removed_line line.path line.removed

abbrev pub told_removals : List Line → List ℕ
told_removals lines = flat_map told_forgetting lines

-- no resource has removed names; the epoch is one more where one had
abbrev pub without_removed : Dumped → Changed
without_removed dumped = record {
  dumped = record { epoch = raised (told_removals dumped.lines) dumped.epoch; lines = map forgotten dumped.lines };
  told = told_removals dumped.lines;
}
