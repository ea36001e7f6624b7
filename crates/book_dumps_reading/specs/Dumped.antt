-- The text of what a dump tells.
use Rattle.std.specs.Prelude.{List, ◌∷◌, ◌++◌, map, length, ℕ}
use Rattle.std.specs.List.{concat}
use Rattle.book_dumps.specs.Dumps.{counted, epoch_line, last_line}
use Rattle.book_dumps.specs.Lines.{line_text}
use Rattle.book_dumps_reading.specs.declared.dumped.Dumped.{Dumped}

-- all lines but the last
abbrev pub dumped_lines : Dumped → List (List ℕ)
dumped_lines d = epoch_line d.epoch ∷ map line_text d.lines

-- the epoch, each resource, and how many lines these are
abbrev pub dumped_text : Dumped → List ℕ
dumped_text d = concat (dumped_lines d) ++ last_line (counted (length (dumped_lines d)))
