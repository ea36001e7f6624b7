-- The text of a line after the first, from what it tells.
use Rattle.std.specs.Prelude.{ℕ, List}
use Rattle.book_dumps.specs.Dumps.{last_line}
use Rattle.book_dumps.specs.Lines.{line_text}
use Rattle.book_dumps_reading.specs.declared.parsing.Told.{Told}
use Rattle.book_dumps_reading.specs.declared.parsing.Told.TheVariants.{Resource, Last}

abbrev pub told_text : Told → List ℕ
told_text (Resource line) = line_text line
told_text (Last count) = last_line count
